-- Where there is room in a device's rings: at the start, after deviations and after control requests.
use Rattle.std.proofs.Common.{◌≡◌, sym, refl, subst, arith, rules, ℕ, ◌-◌, ◌==◌, ◌&&◌, not, nat_eq, Bool, true, false, if◌then◌else◌, cond, ℤ, List, [], ◌∷◌, get_or, Option, Some, None}
use Rattle.std.specs.List.{AllByRecursion, IsDistinct, filter, find}
use Rattle.std.specs.Option.{option_and_then}
use Rattle.std.proofs.lemmas.Int.{ints}
use Rattle.std.proofs.lemmas.List.Elements.{All-map}
use Rattle.std.proofs.lemmas.Map.Keys.{IsDistinct-cons}
use Rattle.std.proofs.lemmas.Option.{cond_some, option_and_then_some}
use Rattle.uac_topology_rules.specs.Domains.{domains_of, each_once}
use Rattle.uac_topology.specs.Function.{FunctionFields}
use Rattle.uac_topology.specs.Topology.{IsSoundFunction}
use Rattle.uac_store.specs.declared.keys.Key.{Key}
use Rattle.uac_rate.specs.Levels.{IsInterval}
use Rattle.uac_alt.specs.AltStreams.{StreamFields, stream_of}
use Rattle.uac_alt.proofs.AltStreamsLemmas.{parts_of, ran_of}
use Rattle.uac_request.specs.Requests.{after_request, request_state, rate_at, reply_of, sets_interface, is_done_answer}
use Rattle.uac_request.specs.declared.setup.Setup.{Setup}
use Rattle.uac_flow.specs.FlowStreams.{OutStream, started_out}
use Rattle.uac_device.specs.InterfaceStreams.{out_from, streams_replaced_at}
use Rattle.uac_device.specs.DeviceWorld.{DeviceWorld, resting_domain, after_control, after_deviation, fresh, after_restart, stream_in_setting}
use Rattle.uac_device.specs.DeviceKept.{IsDeviationInRange}
use Rattle.uac_device.proofs.AltStreamsLemmas.{interval}
use Rattle.uac_streaming.specs.Room.{HasRoom, HaveRoom}
use Rattle.uac_streaming.proofs.RoomLemmas.{some_frames}
use Rattle.uac_streaming.proofs.AmongLemmas.{kept_distinct}
use Rattle.uac_streaming.proofs.RoomDeviceLemmas.{deviations_kept}

-- ---- a clock that is off

pub deviated_room : (clock : ℕ) (ppm : ℤ) (w : DeviceWorld) → IsDeviationInRange ppm → HaveRoom w
    → HaveRoom (after_deviation clock ppm w)
unfolding after_deviation
deviated_room clock ppm w range room = record {
  deviations = deviations_kept (λ d. record d { deviation = ppm }) (λ d _. range) (λ d. d.id == clock) w.domains room.deviations;
  apart = room.apart;
  streams = room.streams;
}

-- ---- the start

other_number : (m n : ℕ) → (m == n) ≡ false → nat_eq n m ≡ false
other_number m n other = grind arith

-- what is left of a list without a number differs from it
none_left : (n : ℕ) (ns : List ℕ) → AllByRecursion (λ y. nat_eq n y ≡ false) (filter (λ m. not (m == n)) ns)
none_left n [] = tt
none_left n (m ∷ ms) = by (m == n) refl (none_left n ms)
  where
    by : (b : Bool) → (m == n) ≡ b → AllByRecursion (λ y. nat_eq n y ≡ false) (filter (λ m. not (m == n)) ms)
        → AllByRecursion (λ y. nat_eq n y ≡ false) (cond (not b) (m ∷ filter (λ m. not (m == n)) ms) (filter (λ m. not (m == n)) ms))
    by true _ rest = rest
    by false other rest = (other_number m n other, rest)

once_each : (ns : List ℕ) → IsDistinct nat_eq (each_once ns)
unfolding each_once IsDistinct
once_each [] = tt
once_each (n ∷ ns) =
    IsDistinct-cons nat_eq n (filter (λ m. not (m == n)) (each_once ns)) (none_left n (each_once ns))
    (kept_distinct (λ m. not (m == n)) (each_once ns) (once_each ns))

pub domains_apart : (function : FunctionFields) → IsSoundFunction function → IsDistinct nat_eq function.domains
unfolding domains_of
domains_apart function sound = subst (IsDistinct nat_eq) (sym sound.2.domains) (once_each _)

at_rest_in_range : (clock : ℕ) → IsDeviationInRange (resting_domain clock).deviation
at_rest_in_range clock = search (rules, ints)

pub fresh_room : (function : FunctionFields) → IsSoundFunction function → HaveRoom (fresh function)
unfolding fresh
fresh_room function sound = record {
  deviations = All-map (λ d. IsDeviationInRange d.deviation) resting_domain function.domains (λ k d _. at_rest_in_range (get_or function.domains k d));
  apart = domains_apart function sound;
  streams = λ k o there. absurd (let none : None ≡ Some o = there in cc);
}

-- ---- streams that start

started_room : (s : StreamFields) → IsInterval s.service → HasRoom (started_out s)
started_room s serves = record {
  serves = serves;
  taken = omega arith;
  waits = refl;
  level = omega arith;
  priming = λ _. omega (arith, some_frames s);
  few = omega arith;
}

-- one of a setting has 1, 2, 4 or 8 microframes from packet to packet
pub stream_interval : (function : FunctionFields) (rate interface number : ℕ) (stream : StreamFields)
    → stream_of function rate interface number ≡ Some stream
    → IsInterval stream.service
stream_interval function rate interface number stream is =
    let parts = parts_of function rate interface number stream is in
    let ran = ran_of function parts.streaming_interface parts.setting parts.nominal parts.general parts.type_one parts.first parts.runs in
    subst (λ (t : StreamFields). IsInterval t.service) (sym parts.is) (interval (parts.first.interval - 1) (omega (arith, ran.most)))

asked_interval : (function : FunctionFields) (controls : List (Key × ℤ)) (interface setting : ℕ) (s : StreamFields)
    → stream_in_setting function controls interface setting ≡ Some s → IsInterval s.service
unfolding stream_in_setting
asked_interval function controls interface setting s asked =
    option_and_then_some _ (find (λ t. t.number == interface) function.streams) s asked (λ t _ at_rate.
    option_and_then_some _ (rate_at function controls t) s at_rate (λ rate _ of. stream_interval function rate interface setting s of))

-- ---- a control request

module _ (w : DeviceWorld) (room : HaveRoom w) where
  begun_room : (begun : Option StreamFields) → ((s : StreamFields) → begun ≡ Some s → IsInterval s.service) → (o : OutStream)
      → option_and_then out_from begun ≡ Some o → HasRoom o
  begun_room None serves o e = absurd (cc)
  begun_room (Some s) serves o e =
      let both = cond_some s.out (started_out s) o e in
      subst HasRoom both.1 (started_room s (serves s refl))

  replaced_room : (interface : ℕ) (begun : Option StreamFields) → ((s : StreamFields) → begun ≡ Some s → IsInterval s.service)
      → (k : ℕ) (o : OutStream)
      → streams_replaced_at interface (option_and_then out_from begun) w.outs k ≡ Some o → HasRoom o
  replaced_room interface begun serves k o = by (k == interface)
    where
      by : (b : Bool) → (if b then option_and_then out_from begun else w.outs k) ≡ Some o → HasRoom o
      by true e = begun_room begun serves o e
      by false e = room.streams k o e

  pub controlled_room : (p : Setup) (bytes : List ℕ) → HaveRoom (after_control p bytes w)
  unfolding after_control after_restart
  controlled_room p bytes = by (sets_interface p && is_done_answer (reply_of w.function (request_state w.controls w.settings) p bytes))
    where
      begun : Option StreamFields
      begun = stream_in_setting w.function w.controls p.index p.value

      by : (b : Bool)
          → (let after = after_request w.function (request_state w.controls w.settings) p bytes in
          let asked : DeviceWorld = record w { controls = after.controls; settings = after.settings } in
          HaveRoom (if b then after_restart p.index begun asked else asked))
      by true = record {
        deviations = room.deviations;
        apart = room.apart;
        streams = replaced_room p.index begun (asked_interval w.function w.controls p.index p.value);
      }
      by false = record { deviations = room.deviations; apart = room.apart; streams = room.streams }
