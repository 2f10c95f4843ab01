-- Slots that are written anew, taken out and put back.
use Rattle.std.proofs.Common.{◌≡◌, ◌∙◌, refl, sym, ap, subst, arith, ℕ, ◌<◌, ◌≤◌, eqb, if◌then◌else◌, ℤ, List, Option, Some, None, length, get_or, set, inl, inr}
use Rattle.std.specs.Option.{IfSome, option_map}
use Rattle.std.proofs.lemmas.Bool.{cases_eq}
use Rattle.std.proofs.lemmas.List.{get_or-set_other, get_or-set_same, length-set}
use Rattle.uac_units.specs.SampleRows.{HaveTicks, frame_at}
use Rattle.uac_units.proofs.SampleRowsLemmas.{length-frame_at}
use Rattle.uac_graph.specs.TickRows.{HaveRoom, RowSlots, SlotsHaveTicks, slot_frames}
use Rattle.uac_graph.specs.Wiring.{frame_on}
use Rattle.uac_graph.proofs.FrameRowsLemmas.{slot_written}
use Rattle.uac_graph.proofs.TickRowsLemmas.{slot_seen}

-- a slot whose rows get a frame of as many channels
pub slot_remade : (tick : ℕ) (slots new now : RowSlots) (id : ℕ) (slot : Option (List (List ℤ))) (made : ℕ → List ℤ) → id < length slots → new ≡ set slots id slot
    → slots ≡ now → option_map (frame_at tick) slot ≡ option_map (λ rows. made (length rows)) (get_or slots id None)
    → (k : ℕ) → frame_on (slot_frames tick new) k
    ≡ (if eqb id k then option_map (λ samples. made (length samples)) (frame_on (slot_frames tick now) id) else frame_on (slot_frames tick now) k)
slot_remade tick slots new now id slot made below is same e k =
    slot_written (frame_at tick) slots new id slot below is k
    ∙ ap (λ (o : Option (List ℤ)). if eqb id k then o else frame_on (slot_frames tick slots) k)
    (e ∙ by (get_or slots id None) ∙ sym (ap (option_map (λ (samples : List ℤ). made (length samples))) (slot_seen tick slots id)))
    ∙ ap (λ (s : RowSlots). if eqb id k then option_map (λ (samples : List ℤ). made (length samples)) (frame_on (slot_frames tick s) id) else frame_on (slot_frames tick s) k) same
  where
    by : (o : Option (List (List ℤ)))
        → option_map (λ (rows : List (List ℤ)). made (length rows)) o ≡ option_map (λ (samples : List ℤ). made (length samples)) (option_map (frame_at tick) o)
    by None = refl
    by (Some rows) = ap (λ (n : ℕ). Some (made n)) (sym (length-frame_at tick rows))

-- a slot has no more rows than the frame of any tick tells
pub slot_few : {V : Type 0} (items : V → List (List ℤ)) (tick most : ℕ) (slots now : RowSlots) (id : ℕ) (o : Option V) → option_map items o ≡ get_or slots id None
    → slots ≡ now → IfSome (frame_on (slot_frames tick now) id) (λ samples. length samples ≤ most) → IfSome o (λ v. length (items v) ≤ most)
slot_few items tick most slots now id None held same few = tt
slot_few items tick most slots now id (Some v) held same few =
    let frame : frame_on (slot_frames tick now) id ≡ Some (frame_at tick (items v)) =
    ap (λ (s : RowSlots). frame_on (slot_frames tick s) id) (sym same) ∙ slot_seen tick slots id ∙ ap (option_map (frame_at tick)) (sym held) in
    let small : length (frame_at tick (items v)) ≤ most = subst (λ (f : Option (List ℤ)). IfSome f (λ samples. length samples ≤ most)) frame few in
    omega (arith, small, length-frame_at tick (items v))

-- what is put into a slot has its ticks
pub ticks_put : (ticks : ℕ) (slots : RowSlots) (id : ℕ) (slot : Option (List (List ℤ))) → id < length slots → SlotsHaveTicks ticks slots
    → IfSome slot (HaveTicks ticks) → SlotsHaveTicks ticks (set slots id slot)
ticks_put ticks slots id slot below have given k found is =
    elim (cases_eq k id) [
      | inl same ↦
          (let here : slot ≡ Some found =
          sym (get_or-set_same slots id slot None below) ∙ ap (λ (n : ℕ). get_or (set slots id slot) n None) (sym same) ∙ is in
          subst (λ (o : Option (List (List ℤ))). IfSome o (HaveTicks ticks)) here given)
      | inr other ↦ have k found (sym (get_or-set_other slots id k slot None other) ∙ is)
    ]

-- what stays where a slot is taken out or put back
pub room_put : (room : ℕ) (slots new : RowSlots) (pins : List (List ℤ)) (id : ℕ) (slot : Option (List (List ℤ))) → HaveRoom room slots pins → id < length slots
    → new ≡ set slots id slot → IfSome slot (HaveTicks room) → HaveRoom room new pins
room_put room slots new pins id slot have below is given = record {
  ids = ap length is ∙ length-set slots id slot ∙ have.ids;
  given = subst (SlotsHaveTicks room) (sym is) (ticks_put room slots id slot below have.given given);
  most = have.most;
  taken = have.taken;
}

-- rows of whatever kind have their ticks as they are read
pub ticks_read : {V : Type 0} (items : V → List (List ℤ)) (ticks : ℕ) (o : Option V) → IfSome o (λ v. HaveTicks ticks (items v)) → IfSome (option_map items o) (HaveTicks ticks)
ticks_read items ticks None given = tt
ticks_read items ticks (Some v) given = given
