-- What several ticks make of one stream: the frames that it gives or has, and when it is found dry or full.
use Rattle.std.proofs.Common.{◌≡◌, ◌∙◌, sym, refl, ap, subst, add-one, arith, get_or-drop, ℕ, zero, suc, ◌+◌, ◌-◌, ◌<◌, ◌≤◌, false, ℤ, List, [], ◌∷◌, ◌++◌, Option, Some, None, length, get_or, map, min, nat_le, pos, replicate, inl, inr, append_assoc}
use Rattle.std.specs.List.{range_with_len}
use Rattle.std.proofs.lemmas.Bool.{cases_lt, eq-eqb, le-leb, ne_eqb}
use Rattle.std.proofs.lemmas.Bool.Decides.{leb_tells}
use Rattle.std.proofs.lemmas.List.FromFn.{length-map-range_with_len, map-range_with_len_more}
use Rattle.std.proofs.lemmas.List.{length-append, append-nil}
use Rattle.uac_flow.specs.FlowStreams.{InStream, OutStream, after_putting, after_taking, in_level, is_dry, is_full, next_taken}
use Rattle.uac_ring.specs.Rings.{Holds, ring_frames}
use Rattle.uac_flow.specs.Flows.{InStands}
use Rattle.uac_flow.specs.declared.inward.InFlow.{InFlow}
use Rattle.uac_flow.specs.FlowTicks.{IsHeld, given_at, ready_of, in_after_ticks, in_room, is_dry_at, is_full_at, next_taken_at, out_after_ticks, with_frames}

not_le : (a b : ℕ) → b < a → nat_le a b ≡ false
not_le a b less = elim (leb_tells a b) [ inl within ↦ absurd (omega (arith, within.1, less)) | inr beyond ↦ beyond.0 ]

-- ---- to the device

abbrev with_target : OutStream → Option ℕ → OutStream
with_target o target = record o { target = target }

-- no ticks leave it
none_by : (o : OutStream) (target : Option ℕ) → out_after_ticks 0 (with_target o target) ≡ with_target o target
unfolding out_after_ticks
none_by o None = refl
none_by o (Some x) =
    rw (le-leb 0 (length o.arrived - o.taken) (omega arith)) (ap (λ (n : ℕ). record o { target = Some x; taken = n }) (omega arith))

pub out_none : (o : OutStream) → out_after_ticks 0 o ≡ o
out_none o = none_by o o.target

-- one more
more_by : (t : ℕ) (o : OutStream) (target : Option ℕ) → after_taking (out_after_ticks t (with_target o target)) ≡ out_after_ticks (suc t) (with_target o target)
unfolding out_after_ticks after_taking
more_by t o None = refl
more_by t o (Some x) = elim (cases_lt t (length o.arrived - o.taken)) [
  | inl less ↦
      rw (le-leb t (length o.arrived - o.taken) (omega (arith, less)))
      (rw (le-leb (suc t) (length o.arrived - o.taken) (omega (arith, less)))
      (rw (ne_eqb (length o.arrived - (o.taken + t)) 0 (λ e. omega (arith, less, e)))
      (ap (λ (n : ℕ). record o { target = Some x; taken = n }) (omega arith))))
  | inr past ↦
      rw (not_le (suc t) (length o.arrived - o.taken) (omega (arith, past)))
      (elim (leb_tells t (length o.arrived - o.taken)) [
        | inl within ↦ rw within.0 (rw (eq-eqb (length o.arrived - (o.taken + t)) 0 (omega (arith, past, within.1))) refl)
        | inr beyond ↦ rw beyond.0 refl
      ])
]

pub out_more : (t : ℕ) (o : OutStream) → after_taking (out_after_ticks t o) ≡ out_after_ticks (suc t) o
out_more t o = more_by t o o.target

-- what the next tick gives and finds
next_by : (t : ℕ) (o : OutStream) (target : Option ℕ) → next_taken (out_after_ticks t (with_target o target)) ≡ next_taken_at t (with_target o target)
unfolding out_after_ticks
next_by t o None = refl
next_by t o (Some x) = elim (cases_lt t (length o.arrived - o.taken)) [
  | inl less ↦
      rw (le-leb t (length o.arrived - o.taken) (omega (arith, less)))
      (rw (le-leb (suc t) (length o.arrived - o.taken) (omega (arith, less)))
      (rw (ne_eqb (length o.arrived - (o.taken + t)) 0 (λ e. omega (arith, less, e))) refl))
  | inr past ↦
      rw (not_le (suc t) (length o.arrived - o.taken) (omega (arith, past)))
      (elim (leb_tells t (length o.arrived - o.taken)) [
        | inl within ↦ rw within.0 (rw (eq-eqb (length o.arrived - (o.taken + t)) 0 (omega (arith, past, within.1))) refl)
        | inr beyond ↦ rw beyond.0 refl
      ])
]

pub out_next : (t : ℕ) (o : OutStream) → next_taken (out_after_ticks t o) ≡ next_taken_at t o
out_next t o = next_by t o o.target

dry_by : (t : ℕ) (o : OutStream) (target : Option ℕ) → is_dry (out_after_ticks t (with_target o target)) ≡ is_dry_at t (with_target o target)
unfolding out_after_ticks
dry_by t o None = refl
dry_by t o (Some x) = elim (cases_lt t (length o.arrived - o.taken)) [
  | inl less ↦
      rw (le-leb t (length o.arrived - o.taken) (omega (arith, less)))
      (rw (ne_eqb (length o.arrived - (o.taken + t)) 0 (λ e. omega (arith, less, e)))
      (rw (ne_eqb (length o.arrived - o.taken) t (λ e. omega (arith, less, e))) refl))
  | inr past ↦
      (elim (leb_tells t (length o.arrived - o.taken)) [
        | inl within ↦
            rw within.0
            (rw (eq-eqb (length o.arrived - (o.taken + t)) 0 (omega (arith, past, within.1)))
            (rw (eq-eqb (length o.arrived - o.taken) t (omega (arith, past, within.1))) refl))
        | inr beyond ↦ rw beyond.0 (rw (ne_eqb (length o.arrived - o.taken) t (λ e. omega (arith, beyond.1, e))) refl)
      ])
]

pub out_dry : (t : ℕ) (o : OutStream) → is_dry (out_after_ticks t o) ≡ is_dry_at t o
out_dry t o = dry_by t o o.target

-- what it gives while it has frames, and then
ready_by : (o : OutStream) (target : Option ℕ) (tick : ℕ) → tick < ready_of (with_target o target) → given_at tick (with_target o target) ≡ get_or o.arrived (o.taken + tick) []
ready_by o None tick less = absurd (omega (arith, less))
ready_by o (Some x) tick less = rw (le-leb (suc tick) (length o.arrived - o.taken) (omega (arith, less))) refl

pub given_ready : (o : OutStream) (ring : List (List ℤ)) (tick : ℕ) → Holds o.arrived o.taken ring → tick < ready_of o → given_at tick o ≡ get_or ring tick []
given_ready o ring tick holds less =
    ready_by o o.target tick less ∙ sym (ap (λ (r : List (List ℤ)). get_or r tick []) holds.1 ∙ get_or-drop o.taken o.arrived tick [])

past_by : (o : OutStream) (target : Option ℕ) (tick : ℕ) → ready_of (with_target o target) ≤ tick
    → given_at tick (with_target o target) ≡ replicate o.stream.channels (pos 0)
past_by o None tick past = refl
past_by o (Some x) tick past = rw (not_le (suc tick) (length o.arrived - o.taken) (omega (arith, past))) refl

pub given_past : (o : OutStream) (tick : ℕ) → ready_of o ≤ tick → given_at tick o ≡ replicate o.stream.channels (pos 0)
given_past o tick past = past_by o o.target tick past

-- ---- from the device

level_kept : (frames : ℕ → List ℤ) (t : ℕ) (i : InStream) → i.gone ≤ length i.made
    → in_level (with_frames frames t i) ≡ in_level i + min t (in_room i)
level_kept frames t i gone =
    omega
    (arith, gone, length-append i.made (map frames (range_with_len 0 (min t (in_room i)))), length-map-range_with_len frames 0 (min t (in_room i)))

put_more : (frames : ℕ → List ℤ) (t : ℕ) (i : InStream) → IsHeld i → after_putting (frames t) (with_frames frames t i) ≡ with_frames frames (suc t) i
unfolding after_putting
put_more frames t i held = elim (cases_lt t (in_room i)) [
  | inl less ↦
      rw (ne_eqb (in_level (with_frames frames t i)) ring_frames (λ e. omega (arith, less, held.1, e, level_kept frames t i held.0)))
      (ap (λ (made : List (List ℤ)). record i { made = made })
      (append_assoc i.made (map frames (range_with_len 0 (min t (in_room i)))) (frames t ∷ [])
      ∙ ap (λ (ms : List (List ℤ)). i.made ++ ms)
      (ap (λ (n : ℕ). map frames (range_with_len 0 n) ++ frames t ∷ []) (omega (arith, less))
      ∙ sym (map-range_with_len_more frames 0 t t (omega arith))
      ∙ ap (λ (n : ℕ). map frames (range_with_len 0 n)) (omega (arith, less)))))
  | inr past ↦
      rw (eq-eqb (in_level (with_frames frames t i)) ring_frames (omega (arith, past, held.1, level_kept frames t i held.0)))
      (ap (λ (n : ℕ). record i { made = i.made ++ map frames (range_with_len 0 n) }) (omega (arith, past)))
]

pub in_kept : (frames : ℕ → List ℤ) (t : ℕ) (i : InStream) → IsHeld i → in_after_ticks frames t i ≡ with_frames frames t i
unfolding in_after_ticks
in_kept frames zero i held =
    let nothing : min 0 (in_room i) ≡ 0 = omega arith in
    ap (λ (made : List (List ℤ)). record i { made = made })
    (sym (ap (λ (n : ℕ). i.made ++ map frames (range_with_len 0 n)) nothing ∙ append-nil i.made))
in_kept frames (suc t) i held = ap (after_putting (frames t)) (in_kept frames t i held) ∙ put_more frames t i held

pub in_full : (frames : ℕ → List ℤ) (t : ℕ) (i : InStream) → IsHeld i → is_full (in_after_ticks frames t i) ≡ is_full_at t i
in_full frames t i held =
    ap is_full (in_kept frames t i held)
    ∙ elim (cases_lt t (in_room i)) [
      | inl less ↦
          ne_eqb (in_level (with_frames frames t i)) ring_frames (λ e. omega (arith, less, held.1, e, level_kept frames t i held.0))
          ∙ sym (not_le (in_room i) t (omega (arith, less)))
      | inr past ↦
          eq-eqb (in_level (with_frames frames t i)) ring_frames (omega (arith, past, held.1, level_kept frames t i held.0))
          ∙ sym (le-leb (in_room i) t (omega (arith, past)))
    ]

-- one frame more is put
pub put_next : (ring : List (List ℤ)) (f : InFlow) (frames : ℕ → List ℤ) (t : ℕ) (i : InStream) (frame : List ℤ) → frame ≡ frames t
    → InStands ring f (after_putting frame (in_after_ticks frames t i)) → InStands ring f (in_after_ticks frames (t + 1) i)
unfolding in_after_ticks
put_next ring f frames t i frame is keeps =
    subst (λ (n : ℕ). InStands ring f (in_after_ticks frames n i)) (sym (add-one t))
    (subst (λ (x : List ℤ). InStands ring f (after_putting x (in_after_ticks frames t i))) is keeps)

pub put_none : (ring : List (List ℤ)) (f : InFlow) (frames : ℕ → List ℤ) (i : InStream) → InStands ring f i → InStands ring f (in_after_ticks frames 0 i)
unfolding in_after_ticks
put_none ring f frames i keeps = keeps
