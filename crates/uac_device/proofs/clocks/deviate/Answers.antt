use Rattle.std.proofs.Common.{◌∙◌, ap, arith, map, w32, ℤ}
use Rattle.std.proofs.lemmas.Int.{to_z-of_z}
use Rattle.uac_device.specs.DeviceTurns.{clock_after_deviation}
use Rattle.uac_device.proofs.ListChangeLemmas.{turned_all, turned_more}
use Rattle.uac_device.proofs.clocks.deviate.Goals as goal

pub loop-clock-preserved : goal.loop-clock-preserved
loop-clock-preserved c =
    turned_more _ c.loop-clock.clocks c.args.clocks.now c.loop-clock.clock-index c.deviate_one.new.clock c.clock-item.result (omega arith)
    c.loop-clock.invariant c.deviate_one.ensures

pub returns : goal.returns
returns c =
    turned_all _ c.loop-clock.clocks c.args.clocks.now c.loop-clock.clock-index (omega arith) c.loop-clock.invariant
    ∙ ap (λ (ppm : ℤ). map (clock_after_deviation c.args.domain ppm) c.args.clocks.now) (to_z-of_z w32 c.args.ppm c.ranges.ppm)
