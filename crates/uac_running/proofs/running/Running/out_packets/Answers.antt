use Rattle.std.proofs.Common.{sym, subst, refl, ℕ, map}
use Rattle.uac_script.specs.Line.{phrase_mark}
use Rattle.uac_streaming.specs.StreamingKept as streaming
use Rattle.uac_streaming.specs.StreamingWorld.{out_packets}
use Rattle.uac_running.specs.RunningWorld.{streaming_of}
use Rattle.uac_running.specs.RunningKept.{RunningFields, RunningStands}
use Rattle.uac_running.proofs.RunningKeptLemmas.{domains_kept}
use Rattle.uac_running.proofs.RunningKeptJackLemmas.{jacks_kept}
use Rattle.uac_running.proofs.EventsLemmas.{streams_told, view_still}
use Rattle.uac_running.proofs.StreamingWorldLemmas.{out_packets-keep}
use Rattle.uac_running.specs.contracts.running.Running.{the_view}
use Rattle.uac_running.proofs.running.Running.out_packets.Goals as goal

pub invariant_of-self : goal.invariant_of-self
invariant_of-self g c =
    let function = c.out_packets.ensures.function in (
      jacks_kept (the_view c.self.inside) _ function refl c.self.invariant.0,
      domains_kept (the_view c.self.inside) _ function refl c.self.invariant.1,
      view_still c.self.inside.device.function _ c.self.inside.view function c.self.invariant.2,
    )

pub returns-clause-tells : goal.returns-clause-tells
returns-clause-tells g c meters r stands =
    let own = subst (λ (p : RunningFields). RunningStands p meters r) (sym c.self.view_is) stands in
    streams_told meters r (the_view c.self.inside) _ own (out_packets r.detail (map phrase_mark c.args.marks.now)) (g.K.Sink.written c.args.sink.now) (g.K.Sink.written c.out_packets.new.sink) c.out_packets.result
    (subst (λ (n : ℕ). streaming.StreamingTells (out_packets n (map phrase_mark c.args.marks.now) (streaming_of r)) c.out_packets.new.self c.out_packets.new.device (g.K.Sink.written c.args.sink.now) (g.K.Sink.written c.out_packets.new.sink) c.out_packets.result)
    own.detail (c.out_packets.ensures.tells (streaming_of r) own.streaming))
    (out_packets-keep r.detail (map phrase_mark c.args.marks.now) (streaming_of r)) refl refl refl refl refl (record { view = refl; configuration = refl; breaks = refl })
