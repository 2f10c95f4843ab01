use Rattle.std.proofs.Common.{◌<◌, length, arith, ◌∙◌}
use Rattle.uac_units.specs.Hearing.{Reading}
use Rattle.uac_units.specs.MeterReadings.{readings}
use Rattle.uac_transcript.specs.Transcript.{says_meter}
use Rattle.uac_transcript.proofs.PrintingLemmas.{front_of_lines, one_line_more}
use Rattle.uac_running.proofs.ReportLinesLemmas.{meter_at}
use Rattle.uac_edges.proofs.WritingLemmas.{Writes-handed_on}
use Rattle.uac_running.proofs.report.write_meters.Goals as goal

pub returns-in_err-write_meter-clause-printed : goal.returns-in_err-write_meter-clause-printed
returns-in_err-write_meter-clause-printed g c =
    let shown = readings (λ v x. (goal.Meter-dyn g (v, x)).reading_of x) c.args.meters.now in
    let d : Reading = record { kind = c.kind.result; value = 0 } in
    let below : c.loop-at.at < length (readings (λ v x. (goal.Meter-dyn g (v, x)).reading_of x) c.args.meters.now) = omega arith in
    Writes-handed_on _ (g.K.Sink.written c.args.sink.now) (g.K.Sink.written c.write_meter.new.sink) c.from_residual.result _ c.from_residual.ensures.1 (
    front_of_lines _ _ _ says_meter shown c.loop-at.at d _ below (meter_at shown c.loop-at.at d c.kind.result c.value.result below c.kind.ensures c.value.ensures)
    c.loop-at.invariant.written c.in_err-write_meter.ensures.written
    )

pub loop-at-preserved : goal.loop-at-preserved
loop-at-preserved g c =
    let shown = readings (λ v x. (goal.Meter-dyn g (v, x)).reading_of x) c.args.meters.now in
    let d : Reading = record { kind = c.kind.result; value = 0 } in
    let below : c.loop-at.at < length (readings (λ v x. (goal.Meter-dyn g (v, x)).reading_of x) c.args.meters.now) = omega arith in
    record {
      written = one_line_more _ _ _ says_meter shown c.loop-at.at d _ below (meter_at shown c.loop-at.at d c.kind.result c.value.result below c.kind.ensures c.value.ensures)
          c.loop-at.invariant.written c.in_ok-write_meter.ensures.written;
      faultless = c.in_ok-write_meter.ensures.cause.faultless ∙ c.loop-at.invariant.faultless;
    }
