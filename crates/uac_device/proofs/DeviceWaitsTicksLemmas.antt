-- More ticks behind those that wait, and that none of them meets anything; what the ticks leave as it was.
use Rattle.std.proofs.Common.{◌≡◌, ◌∙◌, sym, refl, ap, subst, arith, add-suc, add-zero, ℕ, zero, suc, ◌+◌, ◌-◌, ◌<◌, ◌≤◌, ◌==◌, ◌&&◌, Bool, true, false, if◌then◌else◌, ℤ, List, [], ◌∷◌, ◌++◌, Option, Some, None, is_some, length, map, min}
use Rattle.std.specs.Prelude.{IfSome}
use Rattle.std.specs.Option.{option_map, option_map_or}
use Rattle.std.proofs.Math.Path.{fun_ext}
use Rattle.std.proofs.lemmas.Bool.{ne_eqb}
use Rattle.uac_entities.specs.declared.stream.StreamInterface.{StreamInterface}
use Rattle.uac_ring.specs.Rings.{ring_frames}
use Rattle.uac_flow.specs.FlowStreams.{InStream, OutStream, after_putting, in_after_end, in_level, is_dry, is_full, out_level}
use Rattle.uac_flow.specs.FlowTicks.{IsHeld, in_after_ticks, in_room, out_after_ticks}
use Rattle.uac_flow.specs.FlowWaits.{Lasts, sent_more}
use Rattle.uac_flow.proofs.FlowTicksLemmas.{out_dry}
use Rattle.uac_flow.proofs.FlowWaitsLemmas.{held_waits, lasts_less, level_waits, not_full, ticks_last}
use Rattle.uac_device.specs.declared.ticking.Ticked.{Ticked}
use Rattle.uac_device.specs.InterfaceStreams.{set_of_streams}
use Rattle.uac_device.specs.DeviceWorld.{DeviceWorld, after_advance, after_end, after_receiving, after_tick, input_of, is_on, met_of, played_to, streamed_frame}
use Rattle.uac_device.specs.DeviceTicks.{MeetsNothing, Tones, after_tick_times, after_tones, before_tick, outs_after, played_in, world_after}
use Rattle.uac_device.specs.DeviceWaits.{AreSteady, HaveSent, after_sent, frames_waiting, later, settled, with_sent}
use Rattle.uac_device.proofs.DeviceTicksLemmas.{world_by_parts}
use Rattle.uac_device.proofs.DeviceWaitsLemmas.{ins_settled, same_number, settled_parts}

-- ---- more ticks

out_less : (n t : ℕ) (on : Bool) (out : Option OutStream) → t ≤ n → IfSome out (λ o. (on ≡ true) × Lasts n o) → IfSome out (λ o. (on ≡ true) × Lasts t o)
out_less n t on None less steady = steady
out_less n t on (Some o) less steady = (steady.0, lasts_less n t o less steady.1)

in_less : (n t : ℕ) (on : Bool) (in_ : Option InStream) → t ≤ n → IfSome in_ (λ i. (on ≡ true) × IsHeld i × (n ≤ in_room i))
    → IfSome in_ (λ i. (on ≡ true) × IsHeld i × (t ≤ in_room i))
in_less n t on None less steady = steady
in_less n t on (Some i) less steady = (steady.0, steady.1, omega (arith, less, steady.2))

-- fewer ticks may wait, too
pub less_steady : (domain n t : ℕ) (w : DeviceWorld) → t ≤ n → AreSteady domain n w → AreSteady domain t w
less_steady domain n t w less steady = record {
  outs = λ k. out_less n t (is_on w domain k) (w.outs k) less (steady.outs k);
  ins = λ k. in_less n t (is_on w domain k) (w.ins k) less (steady.ins k);
}

later_tone : (n u : ℕ) (tone : Option (ℕ → List ℤ)) (given : List ℤ)
    → option_map_or (λ (frames : ℕ → List ℤ). frames u) (option_map (λ frames k. frames (n + k)) tone) given
    ≡ option_map_or (λ (frames : ℕ → List ℤ). frames (n + u)) tone given
later_tone n u None given = refl
later_tone n u (Some frames) given = refl

pub later_tones : (n u : ℕ) (tones : Tones) (w : DeviceWorld) → after_tones (later n tones) u w ≡ after_tones tones (n + u) w
unfolding after_tones
later_tones n u tones w = ap (λ (given : ℕ → List ℤ). record w { given = given }) (fun_ext (λ id. later_tone n u (tones id) (w.given id)))

put_sent : (frame : List ℤ) (m : ℕ) (i : InStream) → is_full (sent_more m i) ≡ false → is_full (sent_more 0 i) ≡ false
    → after_putting frame (sent_more m i) ≡ sent_more m (after_putting frame i)
unfolding after_putting
put_sent frame m i later here =
    let same : i.gone + 0 ≡ i.gone = omega arith in
    let room : is_full i ≡ false = ap (λ (x : ℕ). length i.made - x == ring_frames) (sym same) ∙ here in
    ap (λ (b : Bool). if b then sent_more m i else record (sent_more m i) { made = i.made ++ frame ∷ [] }) later
    ∙ sym (ap (λ (b : Bool). sent_more m (if b then i else record i { made = i.made ++ frame ∷ [] })) room)

put_later : (n m : ℕ) (frames : ℕ → List ℤ) (frame : List ℤ) (on : Bool) (in_ : Option InStream) → IfSome in_ (λ i. (on ≡ true) × IsHeld i × (suc n ≤ in_room i))
    → option_map (λ i. if on then after_putting frame i else i) (option_map (sent_more m) (option_map (λ i. if on then in_after_ticks frames n i else i) in_))
    ≡ option_map (sent_more m) (option_map (λ i. if on then after_putting frame i else i) (option_map (λ i. if on then in_after_ticks frames n i else i) in_))
put_later n m frames frame on None steady = refl
put_later n m frames frame true (Some i) steady =
    ap (λ (x : InStream). Some x)
    (put_sent frame m (in_after_ticks frames n i) (not_full frames n m i steady.1 steady.2) (not_full frames n 0 i steady.1 steady.2))
put_later n m frames frame false (Some i) steady = refl

-- one tick more
tick_settled : (domain : ℕ) (tones : Tones) (n : ℕ) (sent : ℕ → ℕ) (w : DeviceWorld) → AreSteady domain (suc n) w
    → after_tick domain (after_tones tones n (settled domain tones n sent w)) ≡ settled domain tones (suc n) sent w
unfolding after_sent after_tick_times after_tick after_tones input_of streamed_frame world_after
tick_settled domain tones n sent w steady =
    let found : DeviceWorld = world_after domain tones n w in
    let ticked : DeviceWorld = after_tick domain (after_tones tones n found) in
    ap (λ (v : DeviceWorld). after_tick domain (after_tones tones n (after_sent sent v))) (world_by_parts domain tones n w)
    ∙ ap (λ (ins : ℕ → Option InStream). record ticked { ins = ins })
    (fun_ext
    (λ k.
    put_later n (sent k) (λ u. played_to w (played_in domain tones w u) k) (played_to w ticked.played k) (is_on w domain k) (w.ins k) (steady.ins k)))
    ∙ sym (ap (λ (v : DeviceWorld). after_sent sent (after_tick domain (after_tones tones n v))) (world_by_parts domain tones n w))

pub ticks_settled : (domain : ℕ) (tones : Tones) (n t : ℕ) (sent : ℕ → ℕ) (w : DeviceWorld) → AreSteady domain (n + t) w
    → after_tick_times domain (later n tones) t (settled domain tones n sent w) ≡ settled domain tones (n + t) sent w
unfolding after_tick_times
ticks_settled domain tones n zero sent w steady = ap (λ (k : ℕ). settled domain tones k sent w) (sym (add-zero n))
ticks_settled domain tones n (suc t) sent w steady =
    ap (λ (v : DeviceWorld). after_tick domain (after_tones (later n tones) t v))
    (ticks_settled domain tones n t sent w (less_steady domain (n + suc t) (n + t) w (omega arith) steady))
    ∙ ap (after_tick domain) (later_tones n t tones (settled domain tones (n + t) sent w))
    ∙ tick_settled domain tones (n + t) sent w (less_steady domain (n + suc t) (suc (n + t)) w (omega arith) steady)
    ∙ ap (λ (k : ℕ). settled domain tones k sent w) (sym (add-suc n t))

-- ---- what these ticks meet

not_dry : (t : ℕ) (on : Bool) (out : Option OutStream) → IfSome out (λ o. (on ≡ true) × Lasts (suc t) o)
    → (on && option_map_or is_dry (option_map (λ o. if on then out_after_ticks t o else o) out) false) ≡ false
not_dry t false out steady = refl
not_dry t true None steady = refl
not_dry t true (Some o) steady =
    out_dry t o
    ∙ ap (λ (b : Bool). b && out_level o == t) steady.1.primed
    ∙ ne_eqb (out_level o) t (λ e. omega (arith, e, steady.1.level))

never_full : (t m : ℕ) (frames : ℕ → List ℤ) (on : Bool) (in_ : Option InStream) → IfSome in_ (λ i. (on ≡ true) × IsHeld i × (suc t ≤ in_room i))
    → (on && option_map_or is_full (option_map (sent_more m) (option_map (λ i. if on then in_after_ticks frames t i else i) in_)) false) ≡ false
never_full t m frames false in_ steady = refl
never_full t m frames true None steady = refl
never_full t m frames true (Some i) steady = not_full frames t m i steady.1 steady.2

none_set : (bit : StreamInterface → Bool) (streams : List StreamInterface) → ((s : StreamInterface) → bit s ≡ false) → set_of_streams (map bit streams) ≡ 0
unfolding set_of_streams
none_set bit [] none = refl
none_set bit (s ∷ ss) none =
    let here : bit s ≡ false = none s in
    let rest : set_of_streams (map bit ss) ≡ 0 = none_set bit ss none in
    rw here (rw rest refl)

tick_meets : (domain : ℕ) (tones before : Tones) (n k : ℕ) (sent : ℕ → ℕ) (w : DeviceWorld) → AreSteady domain (suc n) w
    → met_of domain (after_tones before k (settled domain tones n sent w)) ≡ record { under = 0; over = 0 }
unfolding met_of after_tones
tick_meets domain tones before n k sent w steady =
    ap (λ (v : DeviceWorld). met_of domain (after_tones before k v)) (settled_parts domain tones n sent w)
    ∙ ap (λ (x : ℕ). met x (set_of_streams (map full w.function.streams)))
    (none_set dry w.function.streams (λ s. not_dry n (is_on w domain s.number) (w.outs s.number) (steady.outs s.number)))
    ∙ ap (λ (x : ℕ). met 0 x)
    (none_set full w.function.streams
    (λ s.
    never_full n (sent s.number) (λ u. played_to w (played_in domain tones w u) s.number) (is_on w domain s.number) (w.ins s.number) (steady.ins s.number)))
  where
    met : ℕ → ℕ → Ticked
    met under over = record { under = under; over = over }

    dry : StreamInterface → Bool
    dry s = is_on w domain s.number && option_map_or is_dry (outs_after domain w n s.number) false

    full : StreamInterface → Bool
    full s = is_on w domain s.number && option_map_or is_full (ins_settled domain tones n sent w s.number) false

pub nothing_met : (domain : ℕ) (tones : Tones) (n t k : ℕ) (sent : ℕ → ℕ) (w : DeviceWorld) → AreSteady domain (n + t) w → k < t
    → met_of domain (before_tick domain (later n tones) k (settled domain tones n sent w)) ≡ record { under = 0; over = 0 }
nothing_met domain tones n t k sent w steady less =
    ap (λ (v : DeviceWorld). met_of domain (after_tones (later n tones) k v))
    (ticks_settled domain tones n k sent w (less_steady domain (n + t) (n + k) w (omega (arith, less)) steady))
    ∙ tick_meets domain tones (later n tones) (n + k) k sent w (less_steady domain (n + t) (suc (n + k)) w (omega (arith, less)) steady)

-- ---- the world before and behind

none_sent : (in_ : Option InStream) → option_map (sent_more 0) in_ ≡ in_
none_sent None = refl
none_sent (Some i) =
    let same : i.gone + 0 ≡ i.gone = omega arith in
    ap (λ (gone : ℕ). Some (record i { gone = gone })) same

-- where none was sent, it is the world after the ticks
pub settled_none_sent : (domain : ℕ) (tones : Tones) (n : ℕ) (w : DeviceWorld) → settled domain tones n (λ k. 0) w ≡ after_tick_times domain tones n w
unfolding after_sent
settled_none_sent domain tones n w =
    let done : DeviceWorld = after_tick_times domain tones n w in
    ap (λ (ins : ℕ → Option InStream). record done { ins = ins }) (fun_ext (λ k. none_sent (done.ins k)))

-- so the first of them meet nothing, too
pub steady_meets_nothing : (domain n : ℕ) (w : DeviceWorld) → AreSteady domain n w → MeetsNothing domain n w
steady_meets_nothing domain n w steady tones t less =
    ap (λ (v : DeviceWorld). met_of domain (after_tones tones t v)) (sym (settled_none_sent domain tones t w))
    ∙ tick_meets domain tones tones t t (λ k. 0) w (less_steady domain n (suc t) w (omega (arith, less)) steady)

out_left : (n t : ℕ) (on : Bool) (out : Option OutStream) → IfSome out (λ o. (on ≡ true) × Lasts (n + t) o)
    → IfSome (option_map (λ o. if on then out_after_ticks n o else o) out) (λ o. (on ≡ true) × Lasts t o)
out_left n t on None steady = steady
out_left n t true (Some o) steady = (refl, ticks_last n t o steady.1)
out_left n t false (Some o) steady = absurd (let clash : true ≡ false = sym steady.0 in cc)

in_left : (n t m : ℕ) (frames : ℕ → List ℤ) (on : Bool) (in_ : Option InStream) → IfSome in_ (λ i. (on ≡ true) × IsHeld i × (n + t ≤ in_room i))
    → IfSome in_ (λ i. m ≤ in_level i + n)
    → IfSome (option_map (sent_more m) (option_map (λ i. if on then in_after_ticks frames n i else i) in_)) (λ i. (on ≡ true) × IsHeld i × (t ≤ in_room i))
in_left n t m frames on None steady sent = steady
in_left n t m frames true (Some i) steady sent =
    let room : n ≤ in_room i = omega (arith, steady.2) in
    (refl, held_waits frames n m i steady.1 room sent, omega (arith, steady.2, steady.1.1, level_waits frames n m i steady.1 room))
in_left n t m frames false (Some i) steady sent = absurd (let clash : true ≡ false = sym steady.0 in cc)

-- of ticks that may wait, those that are left may wait
pub settled_steady : (domain : ℕ) (tones : Tones) (n t : ℕ) (sent : ℕ → ℕ) (w : DeviceWorld) → AreSteady domain (n + t) w
    → HaveSent n sent w → AreSteady domain t (settled domain tones n sent w)
settled_steady domain tones n t sent w steady sent_before =
    subst (AreSteady domain t) (sym (settled_parts domain tones n sent w))
    (record {
      outs = λ k. out_left n t (is_on w domain k) (w.outs k) (steady.outs k);
      ins = λ k.
          in_left n t (sent k) (λ u. played_to w (played_in domain tones w u) k) (is_on w domain k) (w.ins k) (steady.ins k) (sent_before k);
    })

-- what the ticks leave
pub function_settled : (domain : ℕ) (tones : Tones) (n : ℕ) (sent : ℕ → ℕ) (w : DeviceWorld) → (settled domain tones n sent w).function ≡ w.function
function_settled domain tones n sent w = ap (λ (v : DeviceWorld). v.function) (settled_parts domain tones n sent w)

pub domains_settled : (domain : ℕ) (tones : Tones) (n : ℕ) (sent : ℕ → ℕ) (w : DeviceWorld) → (settled domain tones n sent w).domains ≡ w.domains
domains_settled domain tones n sent w = ap (λ (v : DeviceWorld). v.domains) (settled_parts domain tones n sent w)

out_runs : (n : ℕ) (on : Bool) (out : Option OutStream) → is_some (option_map (λ o. if on then out_after_ticks n o else o) out) ≡ is_some out
out_runs n on None = refl
out_runs n on (Some o) = refl

pub out_runs_settled : (domain : ℕ) (tones : Tones) (n : ℕ) (sent : ℕ → ℕ) (w : DeviceWorld) (interface : ℕ)
    → is_some ((settled domain tones n sent w).outs interface) ≡ is_some (w.outs interface)
out_runs_settled domain tones n sent w interface =
    ap (λ (v : DeviceWorld). is_some (v.outs interface)) (settled_parts domain tones n sent w) ∙ out_runs n (is_on w domain interface) (w.outs interface)

in_runs : (n m : ℕ) (frames : ℕ → List ℤ) (on : Bool) (in_ : Option InStream)
    → is_some (option_map (sent_more m) (option_map (λ i. if on then in_after_ticks frames n i else i) in_)) ≡ is_some in_
in_runs n m frames on None = refl
in_runs n m frames on (Some i) = refl

pub in_runs_settled : (domain : ℕ) (tones : Tones) (n : ℕ) (sent : ℕ → ℕ) (w : DeviceWorld) (interface : ℕ)
    → is_some ((settled domain tones n sent w).ins interface) ≡ is_some (w.ins interface)
in_runs_settled domain tones n sent w interface =
    ap (λ (v : DeviceWorld). is_some (v.ins interface)) (settled_parts domain tones n sent w)
    ∙ in_runs n (sent interface) (λ u. played_to w (played_in domain tones w u) interface) (is_on w domain interface) (w.ins interface)

-- ---- no more is sent than there is

none_more : (n : ℕ) (in_ : Option InStream) → IfSome in_ (λ i. 0 ≤ in_level i + n)
none_more n None = tt
none_more n (Some i) = omega arith

pub none_have_sent : (n : ℕ) (w : DeviceWorld) → HaveSent n (λ k. 0) w
none_have_sent n w k = none_more n (w.ins k)

sent_less : (n t m : ℕ) (in_ : Option InStream) → n ≤ t → IfSome in_ (λ i. m ≤ in_level i + n) → IfSome in_ (λ i. m ≤ in_level i + t)
sent_less n t m None less sent = sent
sent_less n t m (Some i) less sent = omega (arith, less, sent)

pub later_have_sent : (n t : ℕ) (sent : ℕ → ℕ) (w : DeviceWorld) → n ≤ t → HaveSent n sent w → HaveSent t sent w
later_have_sent n t sent w less have k = sent_less n t (sent k) (w.ins k) less (have k)

sent_within : (n m more : ℕ) (here : Bool) (in_ : Option InStream) → (here ≡ true → more ≡ option_map_or (λ i. min ((in_level i + n) - m) i.stream.most) in_ 0)
    → IfSome in_ (λ i. m ≤ in_level i + n) → IfSome in_ (λ i. (if here then m + more else m) ≤ in_level i + n)
sent_within n m more false in_ is sent = sent
sent_within n m more true None is sent = sent
sent_within n m more true (Some i) is sent = omega (arith, sent, is refl)

pub sending_have_sent : (n : ℕ) (sent : ℕ → ℕ) (w : DeviceWorld) (interface : ℕ) → HaveSent n sent w
    → HaveSent n (with_sent interface (frames_waiting n sent w interface) sent) w
sending_have_sent n sent w interface have k =
    sent_within n (sent k) (frames_waiting n sent w interface) (k == interface) (w.ins k)
    (λ is. ap (frames_waiting n sent w) (sym (same_number k interface is))) (have k)

pub advance_have_sent : (domain n : ℕ) (sent : ℕ → ℕ) (w : DeviceWorld) → HaveSent n sent w → HaveSent n sent (after_advance domain w)
unfolding after_advance
advance_have_sent domain n sent w have k = have k

pub receiving_have_sent : (n : ℕ) (sent : ℕ → ℕ) (w : DeviceWorld) (interface : ℕ) (packet : List ℕ) → HaveSent n sent w
    → HaveSent n sent (after_receiving interface (Some packet) w)
unfolding after_receiving
receiving_have_sent n sent w interface packet have k = have k

sent_at_end : (n m : ℕ) (here : Bool) (in_ : Option InStream) → IfSome in_ (λ i. m ≤ in_level i + n)
    → IfSome (if here then option_map in_after_end in_ else in_) (λ i. m ≤ in_level i + n)
unfolding in_after_end
sent_at_end n m false in_ sent = sent
sent_at_end n m true None sent = sent
sent_at_end n m true (Some i) sent = sent

pub end_have_sent : (n : ℕ) (sent : ℕ → ℕ) (w : DeviceWorld) (interface : ℕ) → HaveSent n sent w → HaveSent n sent (after_end interface w)
unfolding after_end
end_have_sent n sent w interface have k = sent_at_end n (sent k) (k == interface) (w.ins k) (have k)
