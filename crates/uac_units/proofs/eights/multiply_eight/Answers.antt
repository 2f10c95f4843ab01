use Rattle.std.proofs.Common.{◌≡◌, ◌∙◌, ap, sym, subst, FitsSigned, w64}
use Rattle.std.specs.Prelude.{replicate}
use Rattle.std.specs.Simd.Lanes.{Each1, zip2}
use Rattle.uac_units.specs.SampleLanes.{floored_by}
use Rattle.uac_units.proofs.SampleLanesLemmas.{products, asked, shifts, product_floor-fits, small-lanes}
use Rattle.uac_units.proofs.eights.multiply_eight.Goals as goal

pub overflow_mul-result : goal.overflow_mul-result
overflow_mul-result c = asked c.args.samples c.args.gains (small-lanes c.args.samples c.args.gains c.requires.samples c.requires.gains)

pub returns-clause-lanes : goal.returns-clause-lanes
returns-clause-lanes c =
    ap (λ n. shifts c.args.samples c.args.gains (replicate n 30)) (sym c.requires.lanes.0)
    ∙ products c.args.samples c.args.gains (c.requires.lanes.0 ∙ sym c.requires.lanes.1) (small-lanes c.args.samples c.args.gains c.requires.samples c.requires.gains)

pub returns-clause-fits : goal.returns-clause-fits
returns-clause-fits c =
    let small = small-lanes c.args.samples c.args.gains c.requires.samples c.requires.gains in
    let is : shifts c.args.samples c.args.gains (replicate 8 30) ≡ zip2 floored_by c.args.samples c.args.gains =
    ap (λ n. shifts c.args.samples c.args.gains (replicate n 30)) (sym c.requires.lanes.0)
    ∙ products c.args.samples c.args.gains (c.requires.lanes.0 ∙ sym c.requires.lanes.1) small in
    subst (Each1 (FitsSigned w64)) (sym is) (product_floor-fits c.args.samples c.args.gains small)
