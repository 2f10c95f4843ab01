use Rattle.std.proofs.Common.{sym, subst, refl}
use Rattle.uac_host.specs.HostCalls as calls
use Rattle.uac_running.specs.RunningWorld.{streaming_of, with_track}
use Rattle.uac_running.specs.RunningKept.{RunningFields, RunningStands}
use Rattle.uac_running.proofs.EventsLemmas.{hosted}
use Rattle.uac_running.specs.contracts.running.Running.{the_view}
use Rattle.uac_running.proofs.running.Running.track.Goals as goal

pub returns-clause-stands : goal.returns-clause-stands
unfolding with_track
returns-clause-stands c meters r stands =
    let own = subst (λ (p : RunningFields). RunningStands p meters r) (sym c.self.view_is) stands.now in
    record {
      now = hosted meters r (the_view c.self.inside) _ own (calls.with_track_tone c.args.interface c.args.tone r.host) (c.track.ensures c.self.inside.device (streaming_of r) own.streaming)
          refl refl refl refl refl (record { view = refl; configuration = refl; breaks = refl });
      room = stands.room;
    }
