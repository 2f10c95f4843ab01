use Rattle.std.proofs.Common.{◌≡◌, ◌∙◌, ap, sym, subst, map, FitsSigned, w32}
use Rattle.std.specs.Prelude.{replicate}
use Rattle.std.specs.Simd.Lanes.{Each1}
use Rattle.uac_gain.specs.Gain.{nearest_in_32_bits}
use Rattle.uac_units.proofs.SampleLanesLemmas.{clamps, clamped-lanes, nearest_in_32_bits-fits}
use Rattle.uac_units.proofs.eights.saturate_eight.Goals as goal

pub returns-clause-lanes : goal.returns-clause-lanes
returns-clause-lanes c =
    ap (λ n. clamps c.args.sums (replicate n 18446744071562067968) (replicate n 2147483647)) (sym c.requires.lanes)
    ∙ clamped-lanes c.args.sums c.requires.fits

pub returns-clause-fits : goal.returns-clause-fits
returns-clause-fits c =
    let is : clamps c.args.sums (replicate 8 18446744071562067968) (replicate 8 2147483647) ≡ map nearest_in_32_bits c.args.sums =
    ap (λ n. clamps c.args.sums (replicate n 18446744071562067968) (replicate n 2147483647)) (sym c.requires.lanes)
    ∙ clamped-lanes c.args.sums c.requires.fits in
    subst (Each1 (FitsSigned w32)) (sym is) (nearest_in_32_bits-fits c.args.sums)
