-- What a microframe leaves as it is: functions, controls, and the clocks of the domains.
use Rattle.std.proofs.Common.{◌≡◌, ◌∙◌, sym, refl, ap, subst, ℕ, ◌==◌, ◌<◌, nat_eq, Bool, true, false, if◌then◌else◌, List, [], ◌∷◌, map}
use Rattle.std.specs.List.{All, IsDistinct}
use Rattle.uac_topology.specs.Function.{FunctionFields}
use Rattle.uac_host.specs.HostCalls.{with_report}
use Rattle.uac_host.specs.HostCalls.{after_host_packet as host_sends}
use Rattle.uac_device.specs.DeviceWorld.{Domain, after_advance, after_receiving, set_jack, after_end, steps_with_next, after_tick}
use Rattle.uac_device.specs.DeviceWorld.{after_sending_in_packet as device_sends}
use Rattle.uac_streaming.specs.StreamingWorld.{StreamingWorld, packet_fetched, packet_sent_out, feedback_made}
use Rattle.uac_running.specs.RunningWorld.{RunningWorld, with_streaming}
use Rattle.uac_levels.specs.Projection.{MicroframesKeepOrder, MicroframesKeepTheRest, Stays}
use Rattle.uac_levels.proofs.TellingTurnLemmas.{stepped}
use Rattle.uac_levels.proofs.RunningWorldKeptLemmas.{IsKeptByEach, microframe_keeps}
use Rattle.uac_levels.proofs.ProjectionLemmas.{clocks_of}

-- as before, of streams
abbrev Stay : RunningWorld → StreamingWorld → Type 0
Stay r w = Stays r (with_streaming r w)

-- ---- the clocks of domains

stepped_clocks : (more : Domain → List ℕ) (c : ℕ) (ds : List Domain) → clocks_of (map (stepped more c) ds) ≡ clocks_of ds
stepped_clocks more c [] = refl
stepped_clocks more c (d ∷ ds) = by (d.id == c) (stepped_clocks more c ds)
  where
    by : (b : Bool) → clocks_of (map (stepped more c) ds) ≡ clocks_of ds
        → (let d' : Domain = if b then record d { steps = more d } else d in d'.id ∷ clocks_of (map (stepped more c) ds)) ≡ d.id ∷ clocks_of ds
    by true rest = ap (λ (cs : List ℕ). d.id ∷ cs) rest
    by false rest = ap (λ (cs : List ℕ). d.id ∷ cs) rest

-- ---- a microframe

stays : (r : RunningWorld) → IsKeptByEach (Stay r)
unfolding packet_sent_out after_receiving host_sends packet_fetched device_sends after_end feedback_made with_report set_jack after_tick after_advance
stays r = record {
  sends = λ lost n w s. record { function = s.function; controls = s.controls; domains = s.domains; host = s.host };
  fetches = λ lost n w s. record { function = s.function; controls = s.controls; domains = s.domains; host = s.host };
  ends = λ n w s. record { function = s.function; controls = s.controls; domains = s.domains; host = s.host };
  reports = λ lost value n w s.
      record { function = s.function; controls = s.controls; domains = s.domains; host = hosted w lost value n s };
  jacks = λ terminal frame w s. record { function = s.function; controls = s.controls; domains = s.domains; host = s.host };
  ticks = λ c met w s. record { function = s.function; controls = s.controls; domains = s.domains; host = s.host };
  goes_on = λ c w s. record {
    function = s.function;
    controls = s.controls;
    domains = stepped_clocks (steps_with_next w.device) c w.device.domains ∙ s.domains;
    host = s.host;
  };
}
  where
    hosted : (w : StreamingWorld) (lost : Bool) (value n : ℕ) → Stay r w
        → (if lost then w.host else with_report n value w.host).function ≡ r.host.function
    hosted w true value n s = s.host
    hosted w false value n s = s.host

pub microframes_keep_the_rest : MicroframesKeepTheRest
microframes_keep_the_rest marks r =
    let s = microframe_keeps (Stay r) (stays r) marks r (record { function = refl; controls = refl; domains = refl; host = refl }) in
    record { function = s.function; controls = s.controls; domains = s.domains; host = s.host }

pub microframes_keep_order : MicroframesKeepOrder
microframes_keep_order marks r ordered =
    let stays = microframes_keep_the_rest marks r in
    record {
      apart = subst (λ (f : FunctionFields). IsDistinct nat_eq f.domains) (sym stays.function) ordered.apart;
      domains = stays.domains ∙ ordered.domains ∙ ap (λ (f : FunctionFields). f.domains) (sym stays.function);
      numbers = subst (λ (f : FunctionFields). All (λ s. s.number < 256) f.streams) (sym stays.function) ordered.numbers;
    }
