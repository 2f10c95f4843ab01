use Rattle.std.proofs.Common.{◌≡◌, ◌∙◌, ap, subst, refl, ℤ, w32, ◌==◌, true}
use Rattle.std.proofs.KnownBytes.{Appends-nil}
use Rattle.std.proofs.lemmas.Int.{to_z-of_z}
use Rattle.uac_clock.specs.Nominal.{step_of}
use Rattle.uac_implicit.proofs.PairKeptLemmas.{deviated_stands}
use Rattle.uac_implicit.proofs.PairStepLemmas.{reached_by, number_by}
use Rattle.uac_implicit.proofs.lines.deviate.Goals as goal

pub returns-clause-does : goal.returns-clause-does
returns-clause-does c = λ w written s.
    let t = rw (← c.run.view_is) at s in
    reached_by _ 6 _ _ _ _ (number_by c.args.domain c.if-domain-ne1.false) (
      deviated_stands _ w c.args.ppm c.step_within-run-inside.result t
          (c.step_within-run-inside.ensures.value ∙ ap (step_of c.run.inside.nominal) (to_z-of_z w32 c.args.ppm c.ranges.ppm)),
      Appends-nil written,
    )
