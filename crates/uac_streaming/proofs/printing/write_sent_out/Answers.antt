use Rattle.uac_streaming.proofs.StreamingWorldLineLemmas.{over_told}
use Rattle.uac_streaming.proofs.printing.write_sent_out.Goals as goal

pub returns-in-Over-clause-printed : goal.returns-in-Over-clause-printed
returns-in-Over-clause-printed g c =
    over_told (g.K.Sink.written c.args.sink.now) (g.K.Sink.written c.write_arrival.new.sink) (g.K.Sink.written c.write_over.new.sink) c.write_over.result
    c.args.detail c.args.interface c.args.frames c.args.arrival c.in-Over.is c.in_ok-write_arrival.ensures.printed c.write_over.ensures.written
