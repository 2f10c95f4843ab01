use Rattle.std.proofs.Common.{◌∙◌, ap, map, subst, sym, FitsSigned, to_z, w32, w64, arith, ◌≤◌, ◌+ℤ◌}
use Rattle.std.specs.Simd.Lanes.{Each1, zip2}
use Rattle.std.proofs.lemmas.Int.{to_z-of_z}
use Rattle.uac_gain.specs.Gain.{scaled_sample}
use Rattle.uac_units.specs.SampleLanes.{SumFits, together}
use Rattle.uac_units.proofs.SampleLanesLemmas.{given, handed, handed-samples, room-lanes}
use Rattle.uac_units.proofs.SampleLanesNodeLemmas.{each-below, more-sums, silent-sums}
use Rattle.uac_units.proofs.nodes.add_scaled.Goals as goal
use Rattle.uac_units.proofs.nodes.add_scaled.Goals.{then-bits-eq0, else-bits-eq0}

pub add_eight-requires-clause-room : goal.add_eight-requires-clause-room
add_eight-requires-clause-room c = subst (Each1 SumFits) (sym (handed c.args.sums (room-lanes c.args.sums c.requires.room))) c.requires.room

pub add_eight-requires-clause-samples : goal.add_eight-requires-clause-samples
add_eight-requires-clause-samples c =
    subst (Each1 (FitsSigned w32)) (sym (handed-samples c.scale_one.result c.scale_one.ensures.fits)) c.scale_one.ensures.fits

pub returns-clause-lanes : goal.returns-clause-lanes
returns-clause-lanes c = elim c.if-bits-eq0.branch [
  | then-bits-eq0 w ↦
      let none : together c.args.gains ≤ 0 = omega (arith, c.all_bits-bits.ensures, w.if-bits-eq0.true) in
      ap (map (to_z w64)) w.result-is ∙ handed c.args.sums (room-lanes c.args.sums c.requires.room)
      ∙ silent-sums c.args.sums c.args.sample c.args.gains (c.requires.lanes ∙ sym c.fits-gains.0) (each-below 0 c.args.gains none)
  | else-bits-eq0 w ↦
      ap (map (to_z w64)) w.result-is ∙ handed w.add_eight.result w.add_eight.ensures.fits ∙ w.add_eight.ensures.lanes
      ∙ ap (λ sums. zip2 ◌+ℤ◌ sums (given w.scale_one.result)) (handed c.args.sums (room-lanes c.args.sums c.requires.room))
      ∙ ap (zip2 ◌+ℤ◌ c.args.sums)
      (handed-samples w.scale_one.result w.scale_one.ensures.fits ∙ w.scale_one.ensures.lanes
      ∙ ap (λ s. map (scaled_sample s) c.args.gains) (to_z-of_z w32 c.args.sample c.ranges.sample))
      ∙ more-sums c.args.sums c.args.sample c.args.gains
]

pub returns-clause-fits : goal.returns-clause-fits
returns-clause-fits c = elim c.if-bits-eq0.branch [
  | then-bits-eq0 w ↦ subst (λ xs. Each1 (FitsSigned w64) (map (to_z w64) xs)) (sym w.result-is)
      (subst (Each1 (FitsSigned w64)) (sym (handed c.args.sums (room-lanes c.args.sums c.requires.room))) (room-lanes c.args.sums c.requires.room))
  | else-bits-eq0 w ↦ subst (λ xs. Each1 (FitsSigned w64) (map (to_z w64) xs)) (sym w.result-is)
      (subst (Each1 (FitsSigned w64)) (sym (handed w.add_eight.result w.add_eight.ensures.fits)) w.add_eight.ensures.fits)
]
