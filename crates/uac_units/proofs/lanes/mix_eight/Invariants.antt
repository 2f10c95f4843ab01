use Rattle.std.proofs.Common.{◌≡◌, ◌+◌, map, to_z, w64}
use Rattle.uac_units.specs.SampleLanes.{eight}
use Rattle.uac_units.proofs.RenderingMixLemmas.{mixed_front}
use Rattle.uac_units.proofs.lanes.mix_eight.Given as goal

abbrev pub invariant-loop-at : goal.invariant-loop-at
invariant-loop-at l = map (to_z w64) l.sums ≡ eight (λ lane. mixed_front l.job l.pins.items (l.from + lane) l.at)
