use Rattle.std.proofs.Common.{◌∙◌, ap}
use Rattle.uac_units.specs.MeterReadings.{readings}
use Rattle.uac_device.proofs.HeardRowsLemmas.{rows_few, rows_heard_more, rows_heard_none, rows_heard_past}
use Rattle.uac_device.proofs.rows.hear_rows.Goals as goal
use Rattle.uac_device.proofs.rows.hear_rows.Goals.{then-jack-domain, else-jack-domain}

pub loop-jack-init : goal.loop-jack-init
loop-jack-init g c =
    rows_heard_none c.args.rows.now c.args.domain c.args.jacks.now c.args.ticks
    (readings (λ v x. (goal.Meter-dyn g (v, x)).reading_of x) c.args.meters.now)

pub hear_rows-requires-clause-few : goal.hear_rows-requires-clause-few
hear_rows-requires-clause-few g c = rows_few 0 c.get.result.now _ (c.get.ensures.frames 0) (c.requires.few _)

pub loop-jack-preserved : goal.loop-jack-preserved
loop-jack-preserved g c =
    elim c.if-jack-domain.branch [
      | then-jack-domain w ↦
          rows_heard_more c.args.rows.now c.args.domain c.args.jacks.now c.loop-jack.jack-index _ c.args.ticks w.get.result.now _ _ _
          c.loop-jack-test.true w.if-jack-domain.true c.requires.wired w.get.ensures.frames c.loop-jack.invariant
          (ap (λ m. readings (λ v x. (goal.Meter-dyn g (v, x)).reading_of x) m) w.meters-is ∙ w.hear_rows.ensures)
      | else-jack-domain w ↦
          rows_heard_past c.args.rows.now c.args.domain c.args.jacks.now c.loop-jack.jack-index _ c.args.ticks _ _ c.loop-jack-test.true
          w.if-jack-domain.false
          (ap (λ m. readings (λ v x. (goal.Meter-dyn g (v, x)).reading_of x) m) w.meters-is ∙ c.loop-jack.invariant)
    ]
