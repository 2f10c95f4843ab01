use Rattle.std.proofs.Common.{sym, subst, refl, ℕ}
use Rattle.uac_streaming.specs.StreamingKept as streaming
use Rattle.uac_streaming.specs.StreamingWorld.{all_ends}
use Rattle.uac_running.specs.RunningWorld.{streaming_of}
use Rattle.uac_running.specs.RunningKept.{RunningFields, RunningStands}
use Rattle.uac_running.proofs.RunningKeptLemmas.{domains_kept}
use Rattle.uac_running.proofs.RunningKeptJackLemmas.{jacks_kept}
use Rattle.uac_running.proofs.EventsLemmas.{streams_told, view_still}
use Rattle.uac_running.proofs.StreamingWorldLemmas.{all_ends-keep}
use Rattle.uac_running.specs.contracts.running.Running.{the_view}
use Rattle.uac_running.proofs.running.Running.end_microframe.Goals as goal

pub invariant_of-self : goal.invariant_of-self
invariant_of-self g c =
    let function = c.end_microframe.ensures.function in (
      jacks_kept (the_view c.self.inside) _ function refl c.self.invariant.0,
      domains_kept (the_view c.self.inside) _ function refl c.self.invariant.1,
      view_still c.self.inside.device.function _ c.self.inside.view function c.self.invariant.2,
    )

pub returns-clause-tells : goal.returns-clause-tells
returns-clause-tells g c meters r stands fits =
    let own = subst (λ (p : RunningFields). RunningStands p meters r) (sym c.self.view_is) stands in
    streams_told meters r (the_view c.self.inside) _ own (all_ends r.detail) (g.K.Sink.written c.args.sink.now) (g.K.Sink.written c.end_microframe.new.sink) c.end_microframe.result
    (subst (λ (n : ℕ). streaming.StreamingTells (all_ends n (streaming_of r)) c.end_microframe.new.self c.end_microframe.new.device (g.K.Sink.written c.args.sink.now) (g.K.Sink.written c.end_microframe.new.sink) c.end_microframe.result)
    own.detail (c.end_microframe.ensures.tells (streaming_of r) own.streaming fits))
    (all_ends-keep r.detail (streaming_of r)) refl refl refl refl refl (record { view = refl; configuration = refl; breaks = refl })
