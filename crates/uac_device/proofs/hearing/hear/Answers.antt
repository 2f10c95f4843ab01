use Rattle.std.proofs.Common.{◌∙◌, ap, refl, sym}
use Rattle.std.specs.Option.{option_map}
use Rattle.uac_units.specs.MeterReadings.{readings}
use Rattle.uac_device.specs.DeviceWorld.{after_frames}
use Rattle.uac_device.proofs.DeviceTurnsMeterLemmas.{heard_all, heard_more, heard_none}
use Rattle.uac_device.proofs.hearing.hear.Goals as goal
use Rattle.uac_device.proofs.hearing.hear.Goals.{in-Some, in_default}

pub loop-jack-init : goal.loop-jack-init
unfolding after_frames
loop-jack-init g c = refl

pub loop-jack-preserved : goal.loop-jack-preserved
loop-jack-preserved g c =
    elim c.match-heard_frame.branch [
      | in-Some w ↦
          heard_more c.args.wires.now c.args.domain c.args.jacks.now c.loop-jack.jack-index _ _ _ _ _ c.loop-jack-test.true
          (sym c.heard_frame.ensures ∙ ap (option_map (λ frame. frame.now.items)) w.in-Some.is) c.loop-jack.invariant
          (ap (λ m. readings (λ v x. (goal.Meter-dyn g (v, x)).reading_of x) m) w.meters-is ∙ w.hear.ensures)
      | in_default w ↦
          heard_none c.args.wires.now c.args.domain c.args.jacks.now c.loop-jack.jack-index _ _ _ c.loop-jack-test.true
          (sym c.heard_frame.ensures ∙ ap (option_map (λ frame. frame.now.items)) w.in_default.is)
          (ap (λ m. readings (λ v x. (goal.Meter-dyn g (v, x)).reading_of x) m) w.meters-is ∙ c.loop-jack.invariant)
    ]

pub returns : goal.returns
returns g c =
    heard_all c.args.wires.now c.args.domain c.args.jacks.now c.loop-jack.jack-index _ _ c.loop-jack-test.false c.loop-jack.invariant
