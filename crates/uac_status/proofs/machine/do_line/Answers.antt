use Rattle.uac_status.specs.DeskKept.{DeskStands}
use Rattle.uac_status.proofs.DeskMachineLemmas.{line_does}
use Rattle.uac_status.proofs.machine.do_line.Goals as goal

pub returns-clause-does : goal.returns-clause-does
returns-clause-does g c = λ w s.
    line_does g.K.Sink.written g.K.Sink.faults c.args.sink.now c.line.new.sink c.args.text.now w (DeskStands c.line.new.self) c.args.desk.now.fault c.line.result
    s.going (c.line.ensures.answers w s) c.line.ensures.unwritten c.line.ensures.cause c.line.ensures.faultless
