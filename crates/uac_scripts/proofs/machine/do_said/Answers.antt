use Rattle.std.proofs.Common.{◌≡◌, sym, ap, ◌∙◌}
use Rattle.uac_units.specs.MeterReadings.{readings}
use Rattle.uac_script.specs.Lent.{lent_phrase, lent_phrase_result}
use Rattle.uac_script.specs.LineParsing.{answer}
use Rattle.uac_rows.specs.BusWorld.{meters_in}
use Rattle.uac_bus.specs.BusKept.{BusStands}
use Rattle.uac_scripts.specs.BusMachineLaws.{bus_shown}
use Rattle.uac_scripts.proofs.BusLineLemmas.{line_done, line_misread, line_prevented, cause_now}
use Rattle.uac_scripts.proofs.machine.do_said.Goals as goal

pub returns-in-Ok-lent_line-clause-does : goal.returns-in-Ok-lent_line-clause-does
returns-in-Ok-lent_line-clause-does g c = λ text w says s.
    line_done answer (BusStands c.lent_line.new.self (readings (λ v x. (goal.Meter-dyn g (v, x)).reading_of x) c.lent_line.new.meters))
    (g.K.Sink.written c.args.sink.now) (g.K.Sink.written c.lent_line.new.sink) (g.K.Sink.faults c.args.sink.now) (g.K.Sink.faults c.lent_line.new.sink)
    text (lent_phrase c.in-Ok.line) w (sym says ∙ ap lent_phrase_result c.in-Ok.is) (c.in-Ok-lent_line.ensures.answers w s) c.in-Ok-lent_line.ensures.faultless

pub returns-in-Err-lent_line-clause-does : goal.returns-in-Err-lent_line-clause-does
returns-in-Err-lent_line-clause-does g c = λ text w says s.
    let unwritten = c.in-Err-lent_line.ensures.unwritten in
    line_prevented answer (BusStands c.lent_line.new.self (readings (λ v x. (goal.Meter-dyn g (v, x)).reading_of x) c.lent_line.new.meters))
    (g.K.Sink.written c.args.sink.now) (g.K.Sink.written c.lent_line.new.sink) (g.K.Sink.faults c.args.sink.now) (g.K.Sink.faults c.lent_line.new.sink)
    (readings (λ v x. (goal.Meter-dyn g (v, x)).reading_of x) c.lent_line.new.meters ≡ meters_in w)
    c.in-Err-lent_line.fault c.line_fault.result text (lent_phrase c.in-Ok.line) w c.line_fault.ensures (sym says ∙ ap lent_phrase_result c.in-Ok.is)
    (c.in-Err-lent_line.ensures.answers w s)
    (λ other. record {
      shown = c.in-Err-lent_line.ensures.unheard other ∙ bus_shown _ _ w s;
      kept = ap g.K.Sink.written (unwritten other);
      faultless = ap g.K.Sink.faults (unwritten other);
    })
    (λ e. cause_now c.args.bus.now.fault _ _ s.going (c.in-Err-lent_line.ensures.cause e))

pub returns-in-Err-clause-does : goal.returns-in-Err-clause-does
returns-in-Err-clause-does g c = λ text w says s.
    line_misread answer _ _ _ text c.in-Err.rule w (sym says ∙ ap lent_phrase_result c.in-Err.is) (bus_shown _ _ w s)
