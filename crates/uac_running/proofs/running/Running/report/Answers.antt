use Rattle.std.proofs.Common.{◌∙◌, sym, subst}
use Rattle.uac_units.specs.MeterReadings.{readings}
use Rattle.uac_running.specs.RunningWorld.{streaming_of}
use Rattle.uac_running.specs.RunningKept.{RunningFields, RunningStands}
use Rattle.uac_running.proofs.RunningLinesReportLemmas.{head_front, report_whole}
use Rattle.uac_running.specs.contracts.running.Running.{the_view}
use Rattle.uac_edges.proofs.WritingLemmas.{Writes-handed_on}
use Rattle.uac_running.proofs.running.Running.report.Goals as goal

pub returns-in_err-write_head-clause-printed : goal.returns-in_err-write_head-clause-printed
returns-in_err-write_head-clause-printed g c r stands =
    let shown = readings (λ v x. (goal.Meter-dyn g (v, x)).reading_of x) c.args.meters.now in
    let own = subst (λ (p : RunningFields). RunningStands p shown r) (sym c.self.view_is) stands.now in
    Writes-handed_on _ (g.K.Sink.written c.args.sink.now) (g.K.Sink.written c.write_head.new.sink) c.from_residual.result _ c.from_residual.ensures.1 (
    head_front (the_view c.self.inside) shown r own c.is_steady.result (c.is_steady.ensures (the_view c.self.inside).device (streaming_of r) own.streaming) (g.K.Sink.written c.args.sink.now) (g.K.Sink.written c.write_head.new.sink) c.in_err-write_head.ensures.printed
    )

pub returns-clause-printed : goal.returns-clause-printed
returns-clause-printed g c r stands =
    let shown = readings (λ v x. (goal.Meter-dyn g (v, x)).reading_of x) c.args.meters.now in
    let own = subst (λ (p : RunningFields). RunningStands p shown r) (sym c.self.view_is) stands.now in
    report_whole (the_view c.self.inside) shown r own c.is_steady.result (c.is_steady.ensures (the_view c.self.inside).device (streaming_of r) own.streaming) (g.K.Sink.written c.args.sink.now) (g.K.Sink.written c.write_head.new.sink) (g.K.Sink.written c.write_rest.new.sink) c.write_rest.result
    c.in_ok-write_head.ensures.printed (c.write_rest.ensures.printed r.device r.met own.streaming.device own.streaming.met (c.deref.ensures.value ∙ own.counts))
