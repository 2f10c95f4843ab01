use Rattle.std.proofs.Common.{sym, ap, ◌∙◌, Err, Result}
use Rattle.uac_edges.specs.Faults.{Rose}
use Rattle.uac_script.specs.Lent.{lent_phrase, lent_phrase_result}
use Rattle.uac_script.specs.LineParsing.{answer}
use Rattle.uac_fullspeed.specs.declared.fault.BenchFault.{BenchFault}
use Rattle.uac_fullspeed.specs.FullSpeedKept.{FsBenchStands}
use Rattle.uac_fullspeed.proofs.MachineLemmas.{line_done, line_misread, line_prevented, cause_now}
use Rattle.uac_fullspeed.proofs.machine.do_said.Goals as goal

pub returns-in-Ok-lent_line-clause-does : goal.returns-in-Ok-lent_line-clause-does
returns-in-Ok-lent_line-clause-does g c = λ text w says s.
    line_done answer (g.K.Sink.written c.args.sink.now) (g.K.Sink.written c.lent_line.new.sink)
    (g.K.Sink.faults c.args.sink.now) (g.K.Sink.faults c.lent_line.new.sink) FsBenchStands c.lent_line.new.self
    text (lent_phrase c.in-Ok.line) w (sym says ∙ ap lent_phrase_result c.in-Ok.is) (c.in-Ok-lent_line.ensures.does w s) c.in-Ok-lent_line.ensures.faultless

pub returns-in-Err-lent_line-clause-does : goal.returns-in-Err-lent_line-clause-does
returns-in-Err-lent_line-clause-does g c = λ text w says s.
    line_prevented answer (g.K.Sink.written c.args.sink.now) (g.K.Sink.written c.lent_line.new.sink)
    (g.K.Sink.faults c.args.sink.now) (g.K.Sink.faults c.lent_line.new.sink)
    c.in-Err-lent_line.fault c.line_fault.result text (lent_phrase c.in-Ok.line) w c.line_fault.ensures (sym says ∙ ap lent_phrase_result c.in-Ok.is)
    (c.in-Err-lent_line.ensures.does w s)
    (λ script. let same = c.in-Err-lent_line.ensures.script script in record {
      shown = tt;
      kept = ap g.K.Sink.written same.1;
      faultless = ap g.K.Sink.faults same.1;
    })
    (λ e. cause_now c.args.bench.now.failed _ _ s.going
    (c.in-Err-lent_line.ensures.cause (ap (λ (f : BenchFault). let r : Result (Unit {0}) BenchFault = Err f in r) e)))

pub returns-in-Err-clause-does : goal.returns-in-Err-clause-does
returns-in-Err-clause-does g c = λ text w says s.
    line_misread answer _ _ text c.in-Err.rule w (sym says ∙ ap lent_phrase_result c.in-Err.is)
