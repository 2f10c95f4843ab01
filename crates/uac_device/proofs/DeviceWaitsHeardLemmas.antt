-- Ticks that wait, and what is heard of them: meters, terminals and jacks go on behind them as if none had waited.
use Rattle.std.proofs.Common.{◌≡◌, ◌∙◌, sym, refl, ap, subst, arith, add-suc, add-zero, ℕ, zero, suc, ◌+◌, ◌<◌, ◌≤◌, ◌==◌, ◌&&◌, Bool, true, false, if◌then◌else◌, ℤ, List, [], ◌∷◌, Option, Some, None, map}
use Rattle.std.specs.Prelude.{IfSome, filter}
use Rattle.std.specs.List.{fold}
use Rattle.std.specs.Option.{option_map}
use Rattle.std.proofs.Math.Path.{fun_ext}
use Rattle.uac_topology.specs.Function.{FunctionFields}
use Rattle.uac_units.specs.Hearing.{Reading}
use Rattle.uac_flow.specs.FlowStreams.{InStream, in_level}
use Rattle.uac_flow.specs.FlowTicks.{IsHeld, in_after_ticks, in_room}
use Rattle.uac_flow.proofs.FlowWaitsLemmas.{level_waits}
use Rattle.uac_device.specs.declared.jacks.Jack.{Jack}
use Rattle.uac_device.specs.DeviceWorld.{DeviceWorld, after_frames, heard_of, is_on, is_output_jack_of, played_to, renders_of}
use Rattle.uac_device.specs.DeviceTicks.{MeetsNothing, Tones, after_tick_times, heard_at, played_after, played_in, readings_after, world_after}
use Rattle.uac_device.specs.DeviceWaits.{AreSteady, HaveSent, SentAreThere, after_sent, later, settled}
use Rattle.uac_device.specs.Jacks.{after_one, jack_after, next_frame, tone_with, tones_of}
use Rattle.uac_device.proofs.DeviceTicksLemmas.{heard_by_tick, world_by_parts}
use Rattle.uac_device.proofs.DeviceWaitsLemmas.{settled_parts}
use Rattle.uac_device.proofs.DeviceWaitsTicksLemmas.{less_steady, ticks_settled}
use Rattle.uac_device.proofs.JacksLemmas.{domain_after, terminal_after}

-- ---- what meters show

heard_same : (domain : ℕ) (tones : Tones) (u : ℕ) (v w : DeviceWorld) → v.function ≡ w.function → played_in domain tones v u ≡ played_in domain tones w u
    → heard_at domain tones v u ≡ heard_at domain tones w u
unfolding heard_at
heard_same domain tones u v w function played =
    ap (λ (f : FunctionFields). map (λ e. played_in domain tones v u e.id) (filter (is_output_jack_of domain) f.entities)) function
    ∙ ap (λ (frames : ℕ → List ℤ). map (λ e. frames e.id) (filter (is_output_jack_of domain) w.function.entities)) played

-- of worlds that play the same, the meters show the same
pub readings_same : (domain : ℕ) (tones : Tones) (n : ℕ) (v w : DeviceWorld) (shown : List Reading) → v.function ≡ w.function
    → ((u : ℕ) → u < n → played_in domain tones v u ≡ played_in domain tones w u)
    → readings_after domain tones v n shown ≡ readings_after domain tones w n shown
unfolding readings_after
readings_same domain tones zero v w shown function played = refl
readings_same domain tones (suc n) v w shown function played =
    ap (λ (frames : List (List ℤ)). after_frames frames (readings_after domain tones v n shown))
    (heard_same domain tones n v w function (played n (omega arith)))
    ∙ ap (after_frames (heard_at domain tones w n)) (readings_same domain tones n v w shown function (λ u less. played u (omega (arith, less))))

pub played_settled : (domain : ℕ) (tones : Tones) (u : ℕ) (sent : ℕ → ℕ) (w : DeviceWorld)
    → (settled domain tones (suc u) sent w).played ≡ played_in domain tones w u
unfolding played_after
played_settled domain tones u sent w = ap (λ (v : DeviceWorld). v.played) (settled_parts domain tones (suc u) sent w)

-- what was sent isn't heard
sent_heard : (domain : ℕ) (tones : Tones) (t : ℕ) (sent : ℕ → ℕ) (w : DeviceWorld)
    → heard_of domain (settled domain tones t sent w) ≡ heard_of domain (after_tick_times domain tones t w)
unfolding heard_of after_sent
sent_heard domain tones t sent w = refl

-- a tick behind those that waited is heard as the tick that it is
heard_later : (domain : ℕ) (tones : Tones) (n t : ℕ) (sent : ℕ → ℕ) (w : DeviceWorld) → AreSteady domain (n + suc t) w
    → heard_at domain (later n tones) (settled domain tones n sent w) t ≡ heard_at domain tones w (n + t)
heard_later domain tones n t sent w steady =
    sym (heard_by_tick domain (later n tones) t (settled domain tones n sent w))
    ∙ ap (heard_of domain) (ticks_settled domain tones n (suc t) sent w steady)
    ∙ sent_heard domain tones (n + suc t) sent w
    ∙ ap (λ (k : ℕ). heard_of domain (after_tick_times domain tones k w)) (add-suc n t)
    ∙ heard_by_tick domain tones (n + t) w

pub readings_more : (domain : ℕ) (tones : Tones) (n t : ℕ) (sent : ℕ → ℕ) (w : DeviceWorld) (shown : List Reading) → AreSteady domain (n + t) w
    → readings_after domain (later n tones) (settled domain tones n sent w) t (readings_after domain tones w n shown)
    ≡ readings_after domain tones w (n + t) shown
unfolding readings_after
readings_more domain tones n zero sent w shown steady = ap (λ (k : ℕ). readings_after domain tones w k shown) (sym (add-zero n))
readings_more domain tones n (suc t) sent w shown steady =
    ap
    (λ (frames : List (List ℤ)).
    after_frames frames
    (readings_after domain (later n tones) (settled domain tones n sent w) t (readings_after domain tones w n shown)))
    (heard_later domain tones n t sent w steady)
    ∙ ap (after_frames (heard_at domain tones w (n + t)))
    (readings_more domain tones n t sent w shown (less_steady domain (n + suc t) (n + t) w (omega arith) steady))
    ∙ ap (λ (k : ℕ). readings_after domain tones w k shown) (sym (add-suc n t))

-- ---- what jacks give

pub jack_later : (domain n t : ℕ) (j : Jack) → jack_after domain t (jack_after domain n j) ≡ jack_after domain (n + t) j
unfolding jack_after
jack_later domain n zero j = ap (λ (k : ℕ). jack_after domain k j) (sym (add-zero n))
jack_later domain n (suc t) j =
    ap (after_one domain) (jack_later domain n t j) ∙ ap (λ (k : ℕ). jack_after domain k j) (sym (add-suc n t))

-- a tone from a tick on
abbrev tone_from : ℕ → Option (ℕ → List ℤ) → Option (ℕ → List ℤ)
tone_from n tone = option_map (λ frames k. frames (n + k)) tone

later_with : (domain id n : ℕ) (before : Option (ℕ → List ℤ)) (j : Jack)
    → tone_with domain id (tone_from n before) (jack_after domain n j) ≡ tone_from n (tone_with domain id before j)
later_with domain id n before j =
    ap (λ (of : ℕ). if of == domain && id == (jack_after domain n j).terminal then frames_behind else tone_from n before) (domain_after domain n j)
    ∙ ap (λ (terminal : ℕ). if j.domain == domain && id == terminal then frames_behind else tone_from n before) (terminal_after domain n j)
    ∙ ap (λ (frames : ℕ → List ℤ). if j.domain == domain && id == j.terminal then Some frames else tone_from n before)
    (fun_ext (λ t. ap next_frame (jack_later domain n t j)))
    ∙ by (j.domain == domain && id == j.terminal)
  where
    frames_behind : Option (ℕ → List ℤ)
    frames_behind = Some (λ t. next_frame (jack_after domain t (jack_after domain n j)))

    by : (b : Bool) → (if b then Some (λ t. next_frame (jack_after domain (n + t) j)) else tone_from n before)
        ≡ tone_from n (if b then Some (λ t. next_frame (jack_after domain t j)) else before)
    by true = refl
    by false = refl

later_fold : (domain id n : ℕ) (before : Option (ℕ → List ℤ)) (jacks : List Jack)
    → fold (tone_with domain id) (tone_from n before) (map (jack_after domain n) jacks) ≡ tone_from n (fold (tone_with domain id) before jacks)
later_fold domain id n before [] = refl
later_fold domain id n before (j ∷ jacks) =
    ap
    (λ (first : Option (ℕ → List ℤ)). fold (tone_with domain id) first (map (jack_after domain n) jacks))
    (later_with domain id n before j)
    ∙ later_fold domain id n (tone_with domain id before j) jacks

-- jacks after so many ticks give what they gave from there on
pub tones_later : (domain n : ℕ) (jacks : List Jack) → tones_of domain (map (jack_after domain n) jacks) ≡ later n (tones_of domain jacks)
tones_later domain n jacks = fun_ext (λ id. later_fold domain id n None jacks)

-- ---- what was sent is there

in_there : (n m : ℕ) (frames : ℕ → List ℤ) (on : Bool) (in_ : Option InStream) → IfSome in_ (λ i. (on ≡ true) × IsHeld i × (n ≤ in_room i))
    → IfSome in_ (λ i. m ≤ in_level i + n) → IfSome (option_map (λ i. if on then in_after_ticks frames n i else i) in_) (λ i. m ≤ in_level i)
in_there n m frames on None steady sent = steady
in_there n m frames true (Some i) steady sent = omega (arith, sent, level_waits frames n 0 i steady.1 steady.2)
in_there n m frames false (Some i) steady sent = absurd (let clash : true ≡ false = sym steady.0 in cc)

pub sent_are_there : (domain : ℕ) (tones : Tones) (n : ℕ) (sent : ℕ → ℕ) (w : DeviceWorld) → AreSteady domain n w → HaveSent n sent w
    → SentAreThere sent (after_tick_times domain tones n w)
unfolding world_after
sent_are_there domain tones n sent w steady have =
    subst (SentAreThere sent) (sym (world_by_parts domain tones n w))
    (λ k. in_there n (sent k) (λ u. played_to w (played_in domain tones w u) k) (is_on w domain k) (w.ins k) (steady.ins k) (have k))

none_there : (in_ : Option InStream) → IfSome in_ (λ i. 0 ≤ in_level i)
none_there None = tt
none_there (Some i) = omega arith

pub none_are_there : (w : DeviceWorld) → SentAreThere (λ k. 0) w
none_are_there w k = none_there (w.ins k)

-- ---- where no tick waits, and what ticks leave

pub nothing_waits : (domain : ℕ) (w : DeviceWorld) → MeetsNothing domain 0 w
nothing_waits domain w tones t less = absurd (omega (arith, less))

pub renders_settled : (domain : ℕ) (tones : Tones) (n : ℕ) (sent : ℕ → ℕ) (w : DeviceWorld)
    → renders_of domain (settled domain tones n sent w) ≡ renders_of domain w
unfolding renders_of
renders_settled domain tones n sent w = ap (renders_of domain) (settled_parts domain tones n sent w)
