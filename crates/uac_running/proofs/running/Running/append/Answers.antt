use Rattle.std.proofs.Common.{sym, subst, refl}
use Rattle.uac_host.specs.HostCalls.{with_samples}
use Rattle.uac_streaming.specs.StreamingKept as streaming
use Rattle.uac_running.specs.RunningWorld.{streaming_of, with_samples_on}
use Rattle.uac_running.specs.RunningKept.{RunningFields, RunningStands, RunningStandsBetween}
use Rattle.uac_running.proofs.TellingLemmas.{ok_then}
use Rattle.uac_running.proofs.EventsLemmas.{hosted}
use Rattle.uac_running.specs.contracts.running.Running.{the_view}
use Rattle.uac_running.proofs.running.Running.append.Goals as goal

pub returns-clause-stands : goal.returns-clause-stands
unfolding with_samples_on
returns-clause-stands c meters r stands whole =
    let own = subst (λ (p : RunningFields). RunningStands p meters r) (sym c.self.view_is) stands.now in
    let host = with_samples c.args.interface c.args.samples.now r.host in
    let after : RunningFields = record (the_view c.self.inside) { streaming = c.append.new.self } in
    ok_then (streaming.StreamingStands c.append.new.self c.self.inside.device (record (streaming_of r) { host = host })) (RunningStandsBetween after meters (with_samples_on c.args.interface c.args.samples.now r))
    c.append.result
    (λ kept. record {
      now = hosted meters r (the_view c.self.inside) after own host kept refl refl refl refl refl (record { view = refl; configuration = refl; breaks = refl });
      room = stands.room;
    })
    (c.append.ensures.stands c.self.inside.device (streaming_of r) own.streaming whole)
