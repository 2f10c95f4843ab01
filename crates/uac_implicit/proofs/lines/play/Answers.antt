use Rattle.std.proofs.Common.{w32, FitsSigned, rules}
use Rattle.std.proofs.KnownBytes.{Appends-nil}
use Rattle.std.proofs.lemmas.Int.{to_z-of_z}
use Rattle.uac_implicit.proofs.PairKeptLemmas.{detailed_stands}
use Rattle.uac_implicit.proofs.PairStepLemmas.{deviates_said}
use Rattle.uac_implicit.proofs.lines.play.Goals as goal

pub returns-in-Deviate-clause-does : goal.returns-in-Deviate-clause-does
returns-in-Deviate-clause-does g c =
    let fits : FitsSigned w32 c.in-Deviate.ppm = search rules in
    let does =
    deviates_said c.in-Deviate.domain _ c.in-Deviate.ppm c.args.run.now c.deviate.new.run c.deviate.result (to_z-of_z w32 c.in-Deviate.ppm fits) c.deviate.ensures.does
    in
    λ w s. rw c.in-Deviate.is (does w _ s)

pub returns-in-Run-clause-does : goal.returns-in-Run-clause-does
returns-in-Run-clause-does g c = λ w s. rw c.in-Run.is (c.run_microframes.ensures.does w s)

pub returns-in-Detail-clause-does : goal.returns-in-Detail-clause-does
returns-in-Detail-clause-does g c = λ w s.
    let t = rw (← c.run.view_is) at s in
    rw c.in-Detail.is (detailed_stands _ w c.in-Detail.level t, Appends-nil (g.K.Sink.written c.args.sink.now))

pub returns-in-Report-clause-does : goal.returns-in-Report-clause-does
returns-in-Report-clause-does g c = λ w s. rw c.in-Report.is (c.report.ensures.does w s)
