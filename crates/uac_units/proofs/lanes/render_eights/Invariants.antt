use Rattle.std.proofs.Common.{◌≡◌, ◌*◌, map}
use Rattle.std.specs.List.{range_with_len}
use Rattle.uac_units.specs.Rendering.{pins_sample}
use Rattle.uac_units.proofs.lanes.render_eights.Given as goal

abbrev pub invariant-loop-block : goal.invariant-loop-block
invariant-loop-block g l =
    l.out.items ≡ map (pins_sample g.U.OnLanes.lane_kind l.job l.pins.items) (range_with_len 0 (8 * l.block))
