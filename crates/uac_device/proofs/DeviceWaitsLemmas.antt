-- What an event makes of a device's world before ticks that wait, it makes of it behind them.
use Rattle.std.proofs.Common.{◌≡◌, ◌∙◌, sym, refl, ap, subst, arith, ℕ, zero, suc, ◌+◌, ◌-◌, ◌<◌, ◌≤◌, ◌==◌, Bool, true, false, if◌then◌else◌, ℤ, List, [], ◌∷◌, ◌++◌, Option, Some, None, is_some, map, min, unwrap_or, inl, inr}
use Rattle.std.specs.Prelude.{IfSome}
use Rattle.std.specs.List.{find}
use Rattle.std.specs.Option.{option_and_then, option_map, option_map_or}
use Rattle.std.proofs.Math.Path.{fun_ext}
use Rattle.std.proofs.lemmas.Bool.{cases_eq, ne_eqb}
use Rattle.uac_entities.specs.declared.stream.StreamInterface.{StreamInterface}
use Rattle.uac_ring.specs.declared.arrival.Arrival.TheVariants as arrival
use Rattle.uac_graph.specs.GraphControls.{controls_in}
use Rattle.uac_graph.specs.Meaning.{meaning}
use Rattle.uac_graph.specs.Needs.{is_end}
use Rattle.uac_graph.specs.Wiring.{silence}
use Rattle.uac_flow.specs.FlowStreams.{InStream, OutStream, after_packet, after_putting, after_sending_in, after_ticks, arrival_of, feedback_of, in_after_end, in_level, is_due, is_full, next_taken, out_after_end, out_level, sent_in_frames}
use Rattle.uac_flow.specs.FlowTicks.{IsHeld, in_after_ticks, in_room, next_taken_at, out_after_ticks}
use Rattle.uac_flow.specs.FlowWaits.{Lasts, feedback_at, sent_more}
use Rattle.uac_flow.proofs.FlowTicksLemmas.{out_next}
use Rattle.uac_flow.proofs.FlowWaitsLemmas.{count_lasts, count_next, count_waits, due_waits, end_lasts, end_next, end_waits, feedback_waits, in_end_waits, level_later, packet_arrives, packet_arrives_later, packet_lasts, packet_next, packet_waits, sending_waits, sent_waits}
use Rattle.uac_device.specs.InterfaceStreams.{changed_where, level_in, streams_changed_at}
use Rattle.uac_device.specs.DeviceWorld.{DeviceWorld, Domain, after_advance, after_end, after_receiving, after_sending_in_packet, arrival_in, at_in, at_out, entity_in, feedback_in, frames_in, is_due_in, is_on, is_streamed, level_of, next_ticks, played_to, step_in, steps_with_next, streamed_frame}
use Rattle.uac_device.specs.DeviceTicks.{Tones, given_after, input_at, ins_after, outs_after, played_after, played_in, world_after}
use Rattle.uac_device.specs.DeviceWaits.{AreSteady, TakesAll, after_sent, frames_waiting, settled, with_sent}
use Rattle.uac_device.proofs.DeviceTicksLemmas.{world_by_parts}

-- a world with other clocks and streams, and with other frames at its terminals
abbrev pub with_parts : DeviceWorld → List Domain → (ℕ → Option OutStream) → (ℕ → Option InStream) → (ℕ → List ℤ) → (ℕ → List ℤ) → DeviceWorld
with_parts w domains outs ins given played = record w { domains = domains; outs = outs; ins = ins; given = given; played = played }

abbrev with_streams : DeviceWorld → List Domain → (ℕ → Option OutStream) → (ℕ → Option InStream) → DeviceWorld
with_streams w domains outs ins = record w { domains = domains; outs = outs; ins = ins }

same_parts : (w : DeviceWorld) (domains : List Domain) (outs outs' : ℕ → Option OutStream) (ins ins' : ℕ → Option InStream) (given given' played played' : ℕ → List ℤ)
    → ((k : ℕ) → outs k ≡ outs' k) → ((k : ℕ) → ins k ≡ ins' k) → given ≡ given' → played ≡ played'
    → with_parts w domains outs ins given played ≡ with_parts w domains outs' ins' given' played'
same_parts w domains outs outs' ins ins' given given' played played' o i g p =
    ap (λ (f : ℕ → Option OutStream). with_parts w domains f ins given played) (fun_ext o)
    ∙ ap (λ (f : ℕ → Option InStream). with_parts w domains outs' f given played) (fun_ext i)
    ∙ ap (λ (f : ℕ → List ℤ). with_parts w domains outs' ins' f played) g
    ∙ ap (λ (f : ℕ → List ℤ). with_parts w domains outs' ins' given' f) p

-- the parts of the world when the ticks are done
abbrev pub ins_settled : ℕ → Tones → ℕ → (ℕ → ℕ) → DeviceWorld → ℕ → Option InStream
ins_settled domain tones n sent w k = option_map (sent_more (sent k)) (ins_after domain tones w n k)

abbrev pub parts_settled : ℕ → Tones → ℕ → (ℕ → ℕ) → DeviceWorld → DeviceWorld
parts_settled domain tones n sent w =
    with_parts w w.domains (outs_after domain w n) (ins_settled domain tones n sent w) (given_after domain tones w n) (played_after domain tones w n)

pub settled_parts : (domain : ℕ) (tones : Tones) (n : ℕ) (sent : ℕ → ℕ) (w : DeviceWorld) → settled domain tones n sent w ≡ parts_settled domain tones n sent w
unfolding after_sent world_after
settled_parts domain tones n sent w = ap (after_sent sent) (world_by_parts domain tones n w)

-- ---- what terminals give and play at ticks that wait

-- streams that give the same at each of so many ticks
abbrev GiveSame : ℕ → ℕ → DeviceWorld → (ℕ → Option OutStream) → Type 0
GiveSame domain n w outs = (u : ℕ) → u < n → (k : ℕ)
    → option_and_then next_taken (changed_where (is_on w domain) (λ interface. out_after_ticks u) w.outs k)
    ≡ option_and_then next_taken (changed_where (is_on w domain) (λ interface. out_after_ticks u) outs k)

next_found : (f g : ℕ → Option OutStream) (found : Option StreamInterface) → ((k : ℕ) → option_and_then next_taken (f k) ≡ option_and_then next_taken (g k))
    → option_and_then next_taken (option_and_then (λ s. f s.number) found) ≡ option_and_then next_taken (option_and_then (λ s. g s.number) found)
next_found f g None same = refl
next_found f g (Some s) same = same s.number

input_same : (domain : ℕ) (tones : Tones) (w : DeviceWorld) (domains : List Domain) (outs : ℕ → Option OutStream) (ins : ℕ → Option InStream) (u : ℕ)
    → ((k : ℕ) → option_and_then next_taken (changed_where (is_on w domain) (λ interface. out_after_ticks u) w.outs k)
    ≡ option_and_then next_taken (changed_where (is_on w domain) (λ interface. out_after_ticks u) outs k))
    → input_at domain tones w u ≡ input_at domain tones (with_streams w domains outs ins) u
unfolding input_at streamed_frame
input_same domain tones w domains outs ins u same =
    fun_ext
    (λ id.
    ap
    (λ (frame : Option (List ℤ)).
    if is_streamed domain (entity_in w id) then unwrap_or frame (silence (entity_in w id).cluster.channels)
    else option_map_or (λ frames. frames u) (tones id) (w.given id))
    (next_found (changed_where (is_on w domain) (λ interface. out_after_ticks u) w.outs) (changed_where (is_on w domain) (λ interface. out_after_ticks u) outs)
    (find (λ s. s.terminal == id) w.function.streams) same))

played_same : (domain : ℕ) (tones : Tones) (w : DeviceWorld) (domains : List Domain) (outs : ℕ → Option OutStream) (ins : ℕ → Option InStream) (u : ℕ)
    → input_at domain tones w u ≡ input_at domain tones (with_streams w domains outs ins) u
    → played_in domain tones w u ≡ played_in domain tones (with_streams w domains outs ins) u
unfolding played_in
played_same domain tones w domains outs ins u same =
    ap {B = ℕ → List ℤ}
    (λ (f : ℕ → List ℤ) (id : ℕ).
    if is_end domain (entity_in w id) then meaning w.function.entities (controls_in w.controls) f id
    else w.played id)
    same

given_same : (domain : ℕ) (tones : Tones) (w : DeviceWorld) (domains : List Domain) (outs : ℕ → Option OutStream) (ins : ℕ → Option InStream) (n : ℕ)
    → GiveSame domain n w outs → given_after domain tones w n ≡ given_after domain tones (with_streams w domains outs ins) n
unfolding given_after
given_same domain tones w domains outs ins zero same = refl
given_same domain tones w domains outs ins (suc t) same = input_same domain tones w domains outs ins t (same t (omega arith))

last_same : (domain : ℕ) (tones : Tones) (w : DeviceWorld) (domains : List Domain) (outs : ℕ → Option OutStream) (ins : ℕ → Option InStream) (n : ℕ)
    → GiveSame domain n w outs → played_after domain tones w n ≡ played_after domain tones (with_streams w domains outs ins) n
unfolding played_after
last_same domain tones w domains outs ins zero same = refl
last_same domain tones w domains outs ins (suc t) same =
    played_same domain tones w domains outs ins t (input_same domain tones w domains outs ins t (same t (omega arith)))

ticks_same : (frames frames' : ℕ → List ℤ) (t : ℕ) (i : InStream) → ((u : ℕ) → u < t → frames u ≡ frames' u) → in_after_ticks frames t i ≡ in_after_ticks frames' t i
unfolding in_after_ticks
ticks_same frames frames' zero i same = refl
ticks_same frames frames' (suc t) i same =
    ap (λ (frame : List ℤ). after_putting frame (in_after_ticks frames t i)) (same t (omega arith))
    ∙ ap (after_putting (frames' t)) (ticks_same frames frames' t i (λ u less. same u (omega (arith, less))))

ins_same : (on : Bool) (frames frames' : ℕ → List ℤ) (t m : ℕ) (stream : Option InStream) → ((u : ℕ) → u < t → frames u ≡ frames' u)
    → option_map (sent_more m) (option_map (λ i. if on then in_after_ticks frames t i else i) stream)
    ≡ option_map (sent_more m) (option_map (λ i. if on then in_after_ticks frames' t i else i) stream)
ins_same on frames frames' t m None same = refl
ins_same true frames frames' t m (Some i) same = ap (λ (x : InStream). Some (sent_more m x)) (ticks_same frames frames' t i same)
ins_same false frames frames' t m (Some i) same = refl

-- ---- an event

-- other clocks, and streams that give the same: what is done later with the streams, may be done before
waits : (domain : ℕ) (tones : Tones) (n : ℕ) (sent : ℕ → ℕ) (w : DeviceWorld) (domains : List Domain) (outs outs_later : ℕ → Option OutStream)
    (ins ins_later : ℕ → Option InStream) → GiveSame domain n w outs
    → ((k : ℕ) → outs_later k ≡ changed_where (is_on w domain) (λ interface. out_after_ticks n) outs k)
    → ((k : ℕ) → ins_later k
    ≡ option_map (sent_more (sent k)) (option_map (λ i. if is_on w domain k then in_after_ticks (λ u. played_to w (played_in domain tones w u) k) n i else i) (ins k)))
    → with_parts w domains outs_later ins_later (given_after domain tones w n) (played_after domain tones w n)
    ≡ settled domain tones n sent (with_streams w domains outs ins)
waits domain tones n sent w domains outs outs_later ins ins_later same o i =
    same_parts w domains outs_later (outs_after domain (with_streams w domains outs ins) n) ins_later
    (ins_settled domain tones n sent (with_streams w domains outs ins)) (given_after domain tones w n)
    (given_after domain tones (with_streams w domains outs ins) n) (played_after domain tones w n)
    (played_after domain tones (with_streams w domains outs ins) n) o
    (λ k.
    i k
    ∙ ins_same (is_on w domain k) (λ u. played_to w (played_in domain tones w u) k)
    (λ u. played_to w (played_in domain tones (with_streams w domains outs ins) u) k) n (sent k) (ins k)
    (λ u less.
    ap (λ (played : ℕ → List ℤ). played_to w played k)
    (played_same domain tones w domains outs ins u (input_same domain tones w domains outs ins u (same u less)))))
    (given_same domain tones w domains outs ins n same) (last_same domain tones w domains outs ins n same)
    ∙ sym (settled_parts domain tones n sent (with_streams w domains outs ins))

-- ---- a clock goes on

counted_later : (n m : ℕ) (on : Bool) (out : Option OutStream) → IfSome out (λ o. (on ≡ true) × Lasts n o)
    → option_map (λ o. if on then after_ticks m o else o) (option_map (λ o. if on then out_after_ticks n o else o) out)
    ≡ option_map (λ o. if on then out_after_ticks n o else o) (option_map (λ o. if on then after_ticks m o else o) out)
counted_later n m on None steady = refl
counted_later n m true (Some o) steady = ap (λ (x : OutStream). Some x) (sym (count_waits n m o steady.1))
counted_later n m false (Some o) steady = refl

counted_next : (u m : ℕ) (on : Bool) (out : Option OutStream)
    → option_and_then next_taken (option_map (λ o. if on then out_after_ticks u o else o) out)
    ≡ option_and_then next_taken (option_map (λ o. if on then out_after_ticks u o else o) (option_map (λ o. if on then after_ticks m o else o) out))
counted_next u m on None = refl
counted_next u m true (Some o) = out_next u o ∙ sym (count_next u m o) ∙ sym (out_next u (after_ticks m o))
counted_next u m false (Some o) = refl

-- the clocks of which that of a domain went on
abbrev stepped : ℕ → DeviceWorld → List Domain
stepped domain w = map {A = Domain} (λ d. if d.id == domain then record d { steps = steps_with_next w d } else d) w.domains

abbrev counted : ℕ → DeviceWorld → ℕ → Option OutStream
counted domain w = changed_where (is_on w domain) (λ interface. after_ticks (next_ticks domain w)) w.outs

pub advance_settled : (domain : ℕ) (tones : Tones) (n : ℕ) (sent : ℕ → ℕ) (w : DeviceWorld) → AreSteady domain n w
    → after_advance domain (settled domain tones n sent w) ≡ settled domain tones n sent (after_advance domain w)
unfolding after_advance next_ticks step_in
advance_settled domain tones n sent w steady =
    ap (after_advance domain) (settled_parts domain tones n sent w)
    ∙ waits domain tones n sent w (stepped domain w) (counted domain w)
    (changed_where (is_on w domain) (λ interface. after_ticks (next_ticks domain w)) (outs_after domain w n)) w.ins (ins_settled domain tones n sent w)
    (λ u less k. counted_next u (next_ticks domain w) (is_on w domain k) (w.outs k))
    (λ k. counted_later n (next_ticks domain w) (is_on w domain k) (w.outs k) (steady.outs k)) (λ k. refl)

pub next_ticks_settled : (domain : ℕ) (tones : Tones) (n : ℕ) (sent : ℕ → ℕ) (w : DeviceWorld)
    → next_ticks domain (settled domain tones n sent w) ≡ next_ticks domain w
unfolding next_ticks step_in
next_ticks_settled domain tones n sent w = ap (next_ticks domain) (settled_parts domain tones n sent w)

counted_steady : (n m : ℕ) (on : Bool) (out : Option OutStream) → IfSome out (λ o. (on ≡ true) × Lasts n o)
    → IfSome (option_map (λ o. if on then after_ticks m o else o) out) (λ o. (on ≡ true) × Lasts n o)
counted_steady n m on None steady = steady
counted_steady n m true (Some o) steady = (steady.0, count_lasts n m o steady.1)
counted_steady n m false (Some o) steady = steady

pub advance_steady : (domain n : ℕ) (w : DeviceWorld) → AreSteady domain n w → AreSteady domain n (after_advance domain w)
unfolding after_advance
advance_steady domain n w steady = record {
  outs = λ k. counted_steady n (next_ticks domain w) (is_on w domain k) (w.outs k) (steady.outs k);
  ins = steady.ins;
}

-- ---- an event of one interface's stream to the device

-- a change of a stream that may as well come before so many ticks
abbrev MayPrecede : ℕ → (OutStream → OutStream) → OutStream → Type 0
MayPrecede n change o =
    (change (out_after_ticks n o) ≡ out_after_ticks n (change o)) × ((u : ℕ) → u < n → next_taken_at u (change o) ≡ next_taken_at u o)

pub same_number : (k interface : ℕ) → (k == interface) ≡ true → k ≡ interface
same_number k interface is = elim (cases_eq k interface) [
  | inl same ↦ same
  | inr other ↦ absurd (let clash : true ≡ false = sym is ∙ ne_eqb k interface other in cc)
]

changed_later : (n : ℕ) (change : OutStream → OutStream) (here on : Bool) (out : Option OutStream) → (here ≡ true → IfSome out (MayPrecede n change))
    → (if here then option_map change (option_map (λ o. if on then out_after_ticks n o else o) out) else option_map (λ o. if on then out_after_ticks n o else o) out)
    ≡ option_map (λ o. if on then out_after_ticks n o else o) (if here then option_map change out else out)
changed_later n change false on out may = refl
changed_later n change true on None may = refl
changed_later n change true true (Some o) may = ap (λ (x : OutStream). Some x) (may refl).0
changed_later n change true false (Some o) may = refl

changed_next : (n u : ℕ) (change : OutStream → OutStream) (here on : Bool) (out : Option OutStream) → u < n → IfSome out (λ o. (on ≡ true) × Lasts n o)
    → (here ≡ true → IfSome out (MayPrecede n change))
    → option_and_then next_taken (option_map (λ o. if on then out_after_ticks u o else o) out)
    ≡ option_and_then next_taken (option_map (λ o. if on then out_after_ticks u o else o) (if here then option_map change out else out))
changed_next n u change false on out less steady may = refl
changed_next n u change true on None less steady may = refl
changed_next n u change true true (Some o) less steady may = out_next u o ∙ sym ((may refl).1 u less) ∙ sym (out_next u (change o))
changed_next n u change true false (Some o) less steady may = absurd (let clash : true ≡ false = sym steady.0 in cc)

-- what holds of an interface's stream, holds where its number is met
at_number : {S : Type 0} (P : S → Type 0) (streams : ℕ → Option S) (interface k : ℕ) → IfSome (streams interface) P → (k == interface) ≡ true → IfSome (streams k) P
at_number P streams interface k holds is = subst (λ (j : ℕ). IfSome (streams j) P) (sym (same_number k interface is)) holds

out_settled : (domain : ℕ) (tones : Tones) (n : ℕ) (sent : ℕ → ℕ) (w : DeviceWorld) (interface : ℕ) (change : OutStream → OutStream) → AreSteady domain n w
    → IfSome (w.outs interface) (MayPrecede n change)
    → at_out interface change (settled domain tones n sent w) ≡ settled domain tones n sent (at_out interface change w)
out_settled domain tones n sent w interface change steady may =
    ap (λ (v : DeviceWorld). at_out interface change v) (settled_parts domain tones n sent w)
    ∙ waits domain tones n sent w w.domains (streams_changed_at interface change w.outs) (streams_changed_at interface change (outs_after domain w n)) w.ins
    (ins_settled domain tones n sent w)
    (λ u less k.
    changed_next n u change (k == interface) (is_on w domain k) (w.outs k) less (steady.outs k)
    (at_number (MayPrecede n change) w.outs interface k may))
    (λ k. changed_later n change (k == interface) (is_on w domain k) (w.outs k) (at_number (MayPrecede n change) w.outs interface k may)) (λ k. refl)

changed_steady : (n : ℕ) (change : OutStream → OutStream) (here on : Bool) (out : Option OutStream) → IfSome out (λ o. (on ≡ true) × Lasts n o)
    → (here ≡ true → IfSome out (λ o. Lasts n (change o))) → IfSome (if here then option_map change out else out) (λ o. (on ≡ true) × Lasts n o)
changed_steady n change false on out steady last = steady
changed_steady n change true on None steady last = steady
changed_steady n change true on (Some o) steady last = (steady.0, last refl)

out_steady : (domain n : ℕ) (w : DeviceWorld) (interface : ℕ) (change : OutStream → OutStream) → AreSteady domain n w
    → IfSome (w.outs interface) (λ o. Lasts n (change o)) → AreSteady domain n (at_out interface change w)
out_steady domain n w interface change steady last = record {
  outs = λ k.
      changed_steady n change (k == interface) (is_on w domain k) (w.outs k) (steady.outs k)
      (at_number (λ o. Lasts n (change o)) w.outs interface k last);
  ins = steady.ins;
}

-- ---- an event of one interface's stream from the device

in_later : (n m : ℕ) (frames : ℕ → List ℤ) (change : InStream → InStream) (here on : Bool) (in_ : Option InStream)
    → ((t : ℕ) (i : InStream) → change (sent_more m (in_after_ticks frames t i)) ≡ sent_more m (in_after_ticks frames t (change i)))
    → (if here then option_map change (option_map (sent_more m) (option_map (λ i. if on then in_after_ticks frames n i else i) in_))
    else option_map (sent_more m) (option_map (λ i. if on then in_after_ticks frames n i else i) in_))
    ≡ option_map (sent_more m) (option_map (λ i. if on then in_after_ticks frames n i else i) (if here then option_map change in_ else in_))
unfolding in_after_ticks
in_later n m frames change false on in_ may = refl
in_later n m frames change true on None may = refl
in_later n m frames change true true (Some i) may = ap (λ (x : InStream). Some x) (may n i)
in_later n m frames change true false (Some i) may = ap (λ (x : InStream). Some x) (may 0 i)

in_settled : (domain : ℕ) (tones : Tones) (n : ℕ) (sent : ℕ → ℕ) (w : DeviceWorld) (interface : ℕ) (change : InStream → InStream)
    → ((frames : ℕ → List ℤ) (t m : ℕ) (i : InStream) → change (sent_more m (in_after_ticks frames t i)) ≡ sent_more m (in_after_ticks frames t (change i)))
    → at_in interface change (settled domain tones n sent w) ≡ settled domain tones n sent (at_in interface change w)
in_settled domain tones n sent w interface change may =
    ap (λ (v : DeviceWorld). at_in interface change v) (settled_parts domain tones n sent w)
    ∙ waits domain tones n sent w w.domains w.outs (outs_after domain w n) (streams_changed_at interface change w.ins)
    (streams_changed_at interface change (ins_settled domain tones n sent w)) (λ u less k. refl) (λ k. refl)
    (λ k.
    in_later n (sent k) (λ u. played_to w (played_in domain tones w u) k) change (k == interface) (is_on w domain k) (w.ins k)
    (λ t i. may (λ u. played_to w (played_in domain tones w u) k) t (sent k) i))

-- ---- the end of a microframe

each_end : (n : ℕ) (on : Bool) (out : Option OutStream) → IfSome out (λ o. (on ≡ true) × Lasts n o) → IfSome out (MayPrecede n out_after_end)
each_end n on None steady = steady
each_end n on (Some o) steady = (sym (end_waits n o steady.1), λ u less. end_next n u o steady.1)

each_end_lasts : (n : ℕ) (on : Bool) (out : Option OutStream) → IfSome out (λ o. (on ≡ true) × Lasts n o) → IfSome out (λ o. Lasts n (out_after_end o))
each_end_lasts n on None steady = steady
each_end_lasts n on (Some o) steady = end_lasts n o steady.1

pub end_settled : (domain : ℕ) (tones : Tones) (n : ℕ) (sent : ℕ → ℕ) (w : DeviceWorld) (interface : ℕ) → AreSteady domain n w
    → after_end interface (settled domain tones n sent w) ≡ settled domain tones n sent (after_end interface w)
unfolding after_end
end_settled domain tones n sent w interface steady =
    ap (λ (v : DeviceWorld). at_in interface in_after_end v)
    (out_settled domain tones n sent w interface out_after_end steady (each_end n (is_on w domain interface) (w.outs interface) (steady.outs interface)))
    ∙ in_settled domain tones n sent (at_out interface out_after_end w) interface in_after_end (λ frames t m i. in_end_waits frames t m i)

end_held : (n : ℕ) (here on : Bool) (in_ : Option InStream) → IfSome in_ (λ i. (on ≡ true) × IsHeld i × (n ≤ in_room i))
    → IfSome (if here then option_map in_after_end in_ else in_) (λ i. (on ≡ true) × IsHeld i × (n ≤ in_room i))
unfolding in_after_end
end_held n false on in_ steady = steady
end_held n true on None steady = steady
end_held n true on (Some i) steady = steady

pub end_steady : (domain n : ℕ) (w : DeviceWorld) (interface : ℕ) → AreSteady domain n w → AreSteady domain n (after_end interface w)
unfolding after_end
end_steady domain n w interface steady =
    let ended = out_steady domain n w interface out_after_end steady (each_end_lasts n (is_on w domain interface) (w.outs interface) (steady.outs interface)) in
    record { outs = ended.outs; ins = λ k. end_held n (k == interface) (is_on w domain k) (w.ins k) (steady.ins k) }

-- ---- a packet to the device

each_packet : (n : ℕ) (packet : List ℕ) (on : Bool) (out : Option OutStream) → IfSome out (λ o. (on ≡ true) × Lasts n o) → IfSome out (TakesAll packet)
    → IfSome out (MayPrecede n (after_packet (Some packet)))
each_packet n packet on None steady room = steady
each_packet n packet on (Some o) steady room = (sym (packet_waits n packet o steady.1 room), λ u less. packet_next n u packet o steady.1 room less)

each_packet_lasts : (n : ℕ) (packet : List ℕ) (on : Bool) (out : Option OutStream) → IfSome out (λ o. (on ≡ true) × Lasts n o) → IfSome out (TakesAll packet)
    → IfSome out (λ o. Lasts n (after_packet (Some packet) o))
each_packet_lasts n packet on None steady room = steady
each_packet_lasts n packet on (Some o) steady room = packet_lasts n packet o steady.1 room

pub receiving_settled : (domain : ℕ) (tones : Tones) (n : ℕ) (sent : ℕ → ℕ) (w : DeviceWorld) (interface : ℕ) (packet : List ℕ) → AreSteady domain n w
    → IfSome (w.outs interface) (TakesAll packet)
    → after_receiving interface (Some packet) (settled domain tones n sent w) ≡ settled domain tones n sent (after_receiving interface (Some packet) w)
unfolding after_receiving
receiving_settled domain tones n sent w interface packet steady room =
    out_settled domain tones n sent w interface (after_packet (Some packet)) steady
    (each_packet n packet (is_on w domain interface) (w.outs interface) (steady.outs interface) room)

pub receiving_steady : (domain n : ℕ) (w : DeviceWorld) (interface : ℕ) (packet : List ℕ) → AreSteady domain n w → IfSome (w.outs interface) (TakesAll packet)
    → AreSteady domain n (after_receiving interface (Some packet) w)
unfolding after_receiving
receiving_steady domain n w interface packet steady room =
    out_steady domain n w interface (after_packet (Some packet)) steady
    (each_packet_lasts n packet (is_on w domain interface) (w.outs interface) (steady.outs interface) room)

arrives : (n : ℕ) (packet : List ℕ) (on : Bool) (out : Option OutStream) → IfSome out (λ o. (on ≡ true) × Lasts n o) → IfSome out (TakesAll packet)
    → option_map_or (arrival_of (Some packet)) (option_map (λ o. if on then out_after_ticks n o else o) out) arrival.Lost
    ≡ option_map_or (arrival_of (Some packet)) out arrival.Lost
arrives n packet on None steady room = refl
arrives n packet true (Some o) steady room = packet_arrives_later n packet o steady.1 room ∙ sym (packet_arrives packet o room)
arrives n packet false (Some o) steady room = refl

pub arrival_settled : (domain : ℕ) (tones : Tones) (n : ℕ) (sent : ℕ → ℕ) (w : DeviceWorld) (interface : ℕ) (packet : List ℕ) → AreSteady domain n w
    → IfSome (w.outs interface) (TakesAll packet)
    → arrival_in (settled domain tones n sent w) interface (Some packet) ≡ arrival_in w interface (Some packet)
unfolding arrival_in
arrival_settled domain tones n sent w interface packet steady room =
    ap (λ (v : DeviceWorld). arrival_in v interface (Some packet)) (settled_parts domain tones n sent w)
    ∙ arrives n packet (is_on w domain interface) (w.outs interface) (steady.outs interface) room

-- ---- what is read of the streams

reports : (n : ℕ) (on : Bool) (out : Option OutStream) → IfSome out (λ o. (on ≡ true) × Lasts n o)
    → option_and_then feedback_of (option_map (λ o. if on then out_after_ticks n o else o) out) ≡ option_and_then (λ o. feedback_at (out_level o - n) o) out
reports n on None steady = refl
reports n true (Some o) steady = feedback_waits n o steady.1
reports n false (Some o) steady = absurd (let clash : true ≡ false = sym steady.0 in cc)

pub feedback_settled : (domain : ℕ) (tones : Tones) (n : ℕ) (sent : ℕ → ℕ) (w : DeviceWorld) (interface : ℕ) → AreSteady domain n w
    → feedback_in (settled domain tones n sent w) interface ≡ option_and_then (λ o. feedback_at (out_level o - n) o) (w.outs interface)
unfolding feedback_in
feedback_settled domain tones n sent w interface steady =
    ap (λ (v : DeviceWorld). feedback_in v interface) (settled_parts domain tones n sent w)
    ∙ reports n (is_on w domain interface) (w.outs interface) (steady.outs interface)

due_put : (frame : List ℤ) (i : InStream) (full : Bool)
    → is_due (if full then i else record i { made = i.made ++ frame ∷ [] }).stream (if full then i else record i { made = i.made ++ frame ∷ [] }).microframes
    ≡ is_due i.stream i.microframes
due_put frame i true = refl
due_put frame i false = refl

due_later : (frames : ℕ → List ℤ) (t : ℕ) (i : InStream)
    → is_due (in_after_ticks frames t i).stream (in_after_ticks frames t i).microframes ≡ is_due i.stream i.microframes
unfolding in_after_ticks after_putting
due_later frames zero i = refl
due_later frames (suc t) i = due_put (frames t) (in_after_ticks frames t i) (is_full (in_after_ticks frames t i)) ∙ due_later frames t i

ins_due : (n m : ℕ) (frames : ℕ → List ℤ) (on : Bool) (in_ : Option InStream)
    → option_map_or (λ i. is_due i.stream i.microframes) (option_map (sent_more m) (option_map (λ i. if on then in_after_ticks frames n i else i) in_)) false
    ≡ option_map_or (λ i. is_due i.stream i.microframes) in_ false
ins_due n m frames on None = refl
ins_due n m frames true (Some i) = due_later frames n i
ins_due n m frames false (Some i) = refl

outs_due : (n : ℕ) (on : Bool) (out : Option OutStream) (before after : Bool) → after ≡ before
    → option_map_or (λ o. is_due o.stream o.microframes) (option_map (λ o. if on then out_after_ticks n o else o) out) after
    ≡ option_map_or (λ o. is_due o.stream o.microframes) out before
outs_due n on None before after same = same
outs_due n true (Some o) before after same = due_waits n o
outs_due n false (Some o) before after same = refl

pub due_settled : (domain : ℕ) (tones : Tones) (n : ℕ) (sent : ℕ → ℕ) (w : DeviceWorld) (interface : ℕ)
    → is_due_in (settled domain tones n sent w) interface ≡ is_due_in w interface
unfolding is_due_in
due_settled domain tones n sent w interface =
    ap (λ (v : DeviceWorld). is_due_in v interface) (settled_parts domain tones n sent w)
    ∙ outs_due n (is_on w domain interface) (w.outs interface) (option_map_or (λ i. is_due i.stream i.microframes) (w.ins interface) false)
    (option_map_or (λ i. is_due i.stream i.microframes) (ins_settled domain tones n sent w interface) false)
    (ins_due n (sent interface) (λ u. played_to w (played_in domain tones w u) interface) (is_on w domain interface) (w.ins interface))

levels : (n : ℕ) (on : Bool) (out : Option OutStream) (before after : Option InStream) → IfSome out (λ o. (on ≡ true) × Lasts n o) → is_some out ≡ true
    → level_in (option_map (λ o. if on then out_after_ticks n o else o) out) after ≡ level_in out before - n
levels n on None before after steady runs = absurd (let clash : true ≡ false = sym runs in cc)
levels n true (Some o) before after steady runs = level_later n o steady.1
levels n false (Some o) before after steady runs = absurd (let clash : true ≡ false = sym steady.0 in cc)

pub level_settled : (domain : ℕ) (tones : Tones) (n : ℕ) (sent : ℕ → ℕ) (w : DeviceWorld) (interface : ℕ) → AreSteady domain n w
    → is_some (w.outs interface) ≡ true → level_of (settled domain tones n sent w) interface ≡ level_of w interface - n
unfolding level_of
level_settled domain tones n sent w interface steady runs =
    ap (λ (v : DeviceWorld). level_of v interface) (settled_parts domain tones n sent w)
    ∙ levels n (is_on w domain interface) (w.outs interface) (w.ins interface) (ins_settled domain tones n sent w interface) (steady.outs interface) runs

-- ---- a packet from the device

sent_later : (n m more : ℕ) (frames : ℕ → List ℤ) (here on : Bool) (in_ : Option InStream) → IfSome in_ (λ i. (on ≡ true) × IsHeld i × (n ≤ in_room i))
    → (here ≡ true → more ≡ option_map_or (λ i. min ((in_level i + n) - m) i.stream.most) in_ 0)
    → (if here then option_map after_sending_in (option_map (sent_more m) (option_map (λ i. if on then in_after_ticks frames n i else i) in_))
    else option_map (sent_more m) (option_map (λ i. if on then in_after_ticks frames n i else i) in_))
    ≡ option_map (sent_more (if here then m + more else m)) (option_map (λ i. if on then in_after_ticks frames n i else i) in_)
sent_later n m more frames false on in_ steady is = refl
sent_later n m more frames true on None steady is = refl
sent_later n m more frames true true (Some i) steady is =
    ap (λ (x : InStream). Some x) (sending_waits frames n m i steady.1 steady.2)
    ∙ ap (λ (x : ℕ). Some (sent_more (m + x) (in_after_ticks frames n i))) (sym (is refl))
sent_later n m more frames true false (Some i) steady is = absurd (let clash : true ≡ false = sym steady.0 in cc)

pub sending_settled : (domain : ℕ) (tones : Tones) (n : ℕ) (sent : ℕ → ℕ) (w : DeviceWorld) (interface : ℕ) → AreSteady domain n w
    → after_sending_in_packet interface (settled domain tones n sent w)
    ≡ settled domain tones n (with_sent interface (frames_waiting n sent w interface) sent) w
unfolding after_sending_in_packet
sending_settled domain tones n sent w interface steady =
    ap (λ (v : DeviceWorld). after_sending_in_packet interface v) (settled_parts domain tones n sent w)
    ∙ ap
    (λ (ins : ℕ → Option InStream). with_parts w w.domains (outs_after domain w n) ins (given_after domain tones w n) (played_after domain tones w n))
    (fun_ext
    (λ k.
    sent_later n (sent k) (frames_waiting n sent w interface) (λ u. played_to w (played_in domain tones w u) k) (k == interface) (is_on w domain k) (w.ins k)
    (steady.ins k) (λ is. ap (frames_waiting n sent w) (sym (same_number k interface is)))))
    ∙ sym (settled_parts domain tones n (with_sent interface (frames_waiting n sent w interface) sent) w)

sent_frames : (n m : ℕ) (frames : ℕ → List ℤ) (on : Bool) (in_ : Option InStream) → IfSome in_ (λ i. (on ≡ true) × IsHeld i × (n ≤ in_room i))
    → option_map_or sent_in_frames (option_map (sent_more m) (option_map (λ i. if on then in_after_ticks frames n i else i) in_)) 0
    ≡ option_map_or (λ i. min ((in_level i + n) - m) i.stream.most) in_ 0
sent_frames n m frames on None steady = refl
sent_frames n m frames true (Some i) steady = sent_waits frames n m i steady.1 steady.2
sent_frames n m frames false (Some i) steady = absurd (let clash : true ≡ false = sym steady.0 in cc)

pub frames_settled : (domain : ℕ) (tones : Tones) (n : ℕ) (sent : ℕ → ℕ) (w : DeviceWorld) (interface : ℕ) → AreSteady domain n w
    → frames_in (settled domain tones n sent w) interface ≡ frames_waiting n sent w interface
unfolding frames_in
frames_settled domain tones n sent w interface steady =
    ap (λ (v : DeviceWorld). frames_in v interface) (settled_parts domain tones n sent w)
    ∙ sent_frames n (sent interface) (λ u. played_to w (played_in domain tones w u) interface) (is_on w domain interface) (w.ins interface) (steady.ins interface)
