use Rattle.std.proofs.Common.{w32, FitsSigned, rules}
use Rattle.std.proofs.lemmas.Int.{to_z-of_z}
use Rattle.uac_rows.proofs.RowsLemmas.{deviates_said, sets_said}
use Rattle.uac_rows.proofs.rows.play.Goals as goal

pub returns-in-Control-clause-does : goal.returns-in-Control-clause-does
returns-in-Control-clause-does g c = λ r s. rw c.in-Control.is (c.control.ensures.does _ r s)

pub returns-in-Set-clause-does : goal.returns-in-Set-clause-does
returns-in-Set-clause-does g c =
    let fits : FitsSigned w32 c.in-Set.value = search rules in
    let does =
    sets_said c.in-Set.name.now _ c.in-Set.value c.args.running.now c.set.new.running (g.K.Sink.written c.args.sink.now) (g.K.Sink.written c.set.new.sink)
    c.set.result (to_z-of_z w32 c.in-Set.value fits) c.set.ensures.does
    in
    λ r s. rw c.in-Set.is (does _ r s)

pub returns-in-Append-clause-does : goal.returns-in-Append-clause-does
returns-in-Append-clause-does g c = λ r s. rw c.in-Append.is (c.append.ensures.does _ r _ s)

pub returns-in-Track-clause-does : goal.returns-in-Track-clause-does
returns-in-Track-clause-does g c = λ r s. rw c.in-Track.is (c.track.ensures.does _ r _ s)

pub returns-in-Jack-clause-does : goal.returns-in-Jack-clause-does
returns-in-Jack-clause-does g c = λ r s. rw c.in-Jack.is (c.set_jack.ensures.does _ r _ s)

pub returns-in-Deviate-clause-does : goal.returns-in-Deviate-clause-does
returns-in-Deviate-clause-does g c =
    let fits : FitsSigned w32 c.in-Deviate.ppm = search rules in
    let does =
    deviates_said c.in-Deviate.domain _ c.in-Deviate.ppm c.args.running.now c.deviate.new.running c.deviate.result (to_z-of_z w32 c.in-Deviate.ppm fits)
    c.deviate.ensures.does
    in
    λ r s. rw c.in-Deviate.is (does _ r _ s)

pub returns-in-Get-clause-does : goal.returns-in-Get-clause-does
returns-in-Get-clause-does g c = λ r s. rw c.in-Get.is (c.get.ensures.does _ r s)

pub returns-in-Show-clause-does : goal.returns-in-Show-clause-does
returns-in-Show-clause-does g c = λ r s. rw c.in-Show.is (c.show.ensures.does _ r s)

pub returns-in-Run-clause-does : goal.returns-in-Run-clause-does
returns-in-Run-clause-does g c = λ r s. rw c.in-Run.is (c.run.ensures.does r s)

pub returns-in-Report-clause-does : goal.returns-in-Report-clause-does
returns-in-Report-clause-does g c = λ r s. rw c.in-Report.is (c.report.ensures.does r s)
