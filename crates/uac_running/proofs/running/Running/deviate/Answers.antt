use Rattle.std.proofs.Common.{◌≡◌, sym, subst, refl, rules, ℤ, to_z, of_z, w32}
use Rattle.uac_rate.specs.Steadiness as steadiness
use Rattle.uac_device.specs.DeviceKept as device
use Rattle.uac_device.specs.DeviceWorld.{after_deviation}
use Rattle.uac_streaming.specs.StreamingKept as streaming
use Rattle.uac_running.specs.RunningWorld.{with_deviation}
use Rattle.uac_running.specs.RunningKept.{RunningFields, RunningStands}
use Rattle.uac_running.proofs.RoomLemmas.{deviation_room}
use Rattle.uac_running.proofs.EventsLemmas.{off}
use Rattle.uac_running.specs.contracts.running.Running.{the_view}
use Rattle.uac_running.proofs.running.Running.deviate.Goals as goal

pub returns-clause-stands : goal.returns-clause-stands
unfolding with_deviation
returns-clause-stands c meters r stands =
    let own = subst (λ (p : RunningFields). RunningStands p meters r) (sym c.self.view_is) stands.now in
    let exact : to_z w32 (of_z w32 c.args.ppm) ≡ c.args.ppm = search rules in
    record {
      now = off meters r (the_view c.self.inside) _ own c.args.domain c.args.ppm
          (subst (λ (m : ℤ). device.DeviceStands c.deviate.new.self (after_deviation c.args.domain m r.device)) exact (c.deviate.ensures.stands r.device own.streaming.device))
          (λ w kept. subst (λ (m : ℤ). streaming.StreamingStands c.deviate-2.new.self c.deviate.new.self (record w { history = steadiness.with_deviation_given m w.history })) exact (c.deviate-2.ensures c.deviate.new.self w kept))
          refl refl refl refl refl (record { view = refl; configuration = refl; breaks = refl });
      room = deviation_room c.args.domain c.args.ppm r (c.requires.low, c.requires.high) stands.room;
    }
