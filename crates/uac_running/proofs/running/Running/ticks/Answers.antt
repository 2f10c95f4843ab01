use Rattle.std.proofs.Common.{◌∙◌, arith, sym, subst, List}
use Rattle.uac_transcript.specs.Printing.{Prints}
use Rattle.uac_transcript.specs.Transcript.{Said}
use Rattle.uac_units.specs.MeterReadings.{readings}
use Rattle.uac_running.proofs.EventRowsLemmas.{rows_told}
use Rattle.uac_running.proofs.running.Running.ticks.Goals as goal

pub tick_rows-requires-clause-some : goal.tick_rows-requires-clause-some
tick_rows-requires-clause-some g c = omega (arith, c.meets_nothing.ensures.some c.if-meets_nothing.true)

pub tick_rows-requires-clause-most : goal.tick_rows-requires-clause-most
tick_rows-requires-clause-most g c = c.meets_nothing.ensures.most c.if-meets_nothing.true

pub show_rows-requires : goal.show_rows-requires
show_rows-requires g c = omega (arith, c.meets_nothing.ensures.most c.if-meets_nothing.true)

pub returns-then-meets_nothing-clause-tells : goal.returns-then-meets_nothing-clause-tells
returns-then-meets_nothing-clause-tells g c r stands =
    let shown = readings (λ v x. (goal.Meter-dyn g (v, x)).reading_of x) c.args.meters.now in
    let showing = readings (λ v x. (goal.Meter-dyn g (v, x)).reading_of x) c.tick_rows.new.meters in
    rows_told c.args.domain c.args.count showing r c.tick_rows.new.self (g.K.Sink.written c.args.sink.now) (g.K.Sink.written c.show_rows.new.sink) c.show_rows.result
    (subst (λ (lines : List Said). Prints (g.K.Sink.written c.args.sink.now) (g.K.Sink.written c.show_rows.new.sink) c.show_rows.result lines)
    (sym (c.meets_nothing.ensures.lines shown r stands c.if-meets_nothing.true))
    (c.show_rows.ensures.printed c.args.count r (omega arith) (c.tick_rows.ensures.detail ∙ stands.detail) (c.tick_rows.ensures.function ∙ stands.streaming.device.function) (c.tick_rows.ensures.played r stands)))
    (c.tick_rows.ensures.stands r stands (c.meets_nothing.ensures.met shown r stands c.if-meets_nothing.true))
