use Rattle.std.proofs.Common.{map, subst, sym}
use Rattle.uac_script.specs.Line.{phrase_mark}
use Rattle.uac_streaming.specs.StreamingWorld.{all_feedback, all_ends}
use Rattle.uac_running.specs.Events.{ends_and_feedback, of_streams}
use Rattle.uac_running.specs.RunningKept.{RunningFields, RunningStands}
use Rattle.uac_running.proofs.SilencePacketLemmas.{quiet_ends_told}
use Rattle.uac_running.proofs.TellingLemmas.{front_then, tells_then}
use Rattle.uac_transcript.proofs.PrintingLemmas.{Tells-handed_on}
use Rattle.uac_running.proofs.running.Running.ends_and_feedback.Goals as goal

pub returns-then-not-runs-clause-tells : goal.returns-then-not-runs-clause-tells
returns-then-not-runs-clause-tells g c meters r stands fits =
    let own = subst (λ (p : RunningFields). RunningStands p meters r) (sym c.self.view_is) stands in
    quiet_ends_told (map phrase_mark c.args.marks.now) c.args.self.now meters r (g.K.Sink.written c.args.sink.now)
    (c.runs.ensures.none r.device own.streaming.device c.if-not-runs.true) stands

pub returns-in_err-end_microframe-clause-tells : goal.returns-in_err-end_microframe-clause-tells
unfolding ends_and_feedback
returns-in_err-end_microframe-clause-tells g c meters r stands fits =
    let marks = map phrase_mark c.args.marks.now in
    Tells-handed_on _ _ (g.K.Sink.written c.args.sink.now) (g.K.Sink.written c.end_microframe.new.sink) c.from_residual.result _ c.from_residual.ensures.1 (
    front_then (of_streams (all_ends r.detail)) (of_streams (all_feedback r.detail marks)) r
    (g.K.Sink.written c.args.sink.now) (g.K.Sink.written c.end_microframe.new.sink) (c.in_err-end_microframe.ensures.tells meters r stands fits).0
    )

pub returns-clause-tells : goal.returns-clause-tells
unfolding ends_and_feedback
returns-clause-tells g c meters r stands fits =
    let marks = map phrase_mark c.args.marks.now in
    let first = c.in_ok-end_microframe.ensures.tells meters r stands fits in
    tells_then (of_streams (all_ends r.detail)) (of_streams (all_feedback r.detail marks)) r c.give_feedback.new.self meters
    (g.K.Sink.written c.args.sink.now) (g.K.Sink.written c.end_microframe.new.sink) (g.K.Sink.written c.give_feedback.new.sink) c.give_feedback.result first.0
    (c.give_feedback.ensures.tells meters (of_streams (all_ends r.detail) r).world first.1)
