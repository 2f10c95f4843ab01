use Rattle.std.proofs.Common.{ℤ, w32, subst, sym, ◌∙◌}
use Rattle.std.proofs.KnownBytes.{Appends-nil}
use Rattle.std.proofs.lemmas.Int.{to_z-of_z}
use Rattle.uac_running.specs.RunningWorld.{with_deviation}
use Rattle.uac_running.specs.RunningKept.{RunningStandsBetween}
use Rattle.uac_rows.proofs.RowsLemmas.{unless_reached}
use Rattle.uac_rows.proofs.rows.deviate.Goals as goal

pub returns-clause-does : goal.returns-clause-does
returns-clause-does c = λ shown r written s.
    let stands =
    subst (λ (ppm : ℤ). RunningStandsBetween c.deviate.new.self shown (with_deviation c.args.domain ppm r)) (to_z-of_z w32 c.args.ppm c.ranges.ppm)
    (c.deviate.ensures.stands shown r s)
    in
    unless_reached _ 6 _ _ _ _ (sym (c.has_domain.ensures shown r s) ∙ c.if-not-has_domain.false) (stands, Appends-nil written)
