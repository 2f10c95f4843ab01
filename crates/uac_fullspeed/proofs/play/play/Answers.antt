-- The deviation of the clock.
use Rattle.std.proofs.Common.{◌≡◌, subst, ℤ, pos, w32, FitsSigned, rules}
use Rattle.std.proofs.lemmas.Int.{to_z-of_z}
use Rattle.uac_script.specs.Phrase.{deviate_line}
use Rattle.uac_fullspeed.specs.FullSpeedSteps.{fs_step}
use Rattle.uac_fullspeed.specs.FullSpeedKept.{FsRunStandsBetween, FsDoes}
use Rattle.uac_fullspeed.proofs.play.play.Goals as goal

pub returns-in-Deviate-clause-does : goal.returns-in-Deviate-clause-does
returns-in-Deviate-clause-does g c = λ w stands.
    let fits : FitsSigned w32 c.in-Deviate.ppm = search rules in
    rw c.in-Deviate.is
    (subst (λ (z : ℤ). FsDoes (fs_step (deviate_line (pos c.in-Deviate.domain) z) w) FsRunStandsBetween c.deviate.new.run (g.K.Sink.written c.args.sink.now) (g.K.Sink.written c.args.sink.now) c.deviate.result)
    (to_z-of_z w32 c.in-Deviate.ppm fits) (c.deviate.ensures.does w (g.K.Sink.written c.args.sink.now) stands))
