use Rattle.std.proofs.Common.{sym, subst, refl, ℕ, map}
use Rattle.uac_script.specs.Line.{phrase_mark}
use Rattle.uac_streaming.specs.StreamingKept as streaming
use Rattle.uac_streaming.specs.StreamingWorld.{all_feedback}
use Rattle.uac_running.specs.RunningWorld.{streaming_of}
use Rattle.uac_running.specs.RunningKept.{RunningFields, RunningStands}
use Rattle.uac_running.proofs.EventsLemmas.{streams_told}
use Rattle.uac_running.proofs.StreamingWorldLemmas.{all_feedback-keep}
use Rattle.uac_running.specs.contracts.running.Running.{the_view}
use Rattle.uac_running.proofs.running.Running.give_feedback.Goals as goal

pub returns-clause-tells : goal.returns-clause-tells
returns-clause-tells g c meters r stands =
    let own = subst (λ (p : RunningFields). RunningStands p meters r) (sym c.self.view_is) stands in
    streams_told meters r (the_view c.self.inside) _ own (all_feedback r.detail (map phrase_mark c.args.marks.now)) (g.K.Sink.written c.args.sink.now) (g.K.Sink.written c.give_feedback.new.sink) c.give_feedback.result
    (subst (λ (n : ℕ). streaming.StreamingTells (all_feedback n (map phrase_mark c.args.marks.now) (streaming_of r)) c.give_feedback.new.self c.self.inside.device (g.K.Sink.written c.args.sink.now) (g.K.Sink.written c.give_feedback.new.sink) c.give_feedback.result)
    own.detail (c.give_feedback.ensures.tells (streaming_of r) own.streaming))
    (all_feedback-keep r.detail (map phrase_mark c.args.marks.now) (streaming_of r)) refl refl refl refl refl (record { view = refl; configuration = refl; breaks = refl })
