-- Silent rows.
use Rattle.std.proofs.Common.{◌≡◌, ◌∙◌, refl, sym, ap, subst, arith, ℕ, zero, suc, ◌<◌, Bool, eqb, if◌then◌else◌, ℤ, pos, List, ◌∷◌, Option, Some, None, length, get_or, map, set, replicate, ◌⊎◌, inl, inr}
use Rattle.std.specs.Option.{option_map}
use Rattle.std.proofs.lemmas.Bool.{cases_eq, eq-eqb, ne_eqb}
use Rattle.std.proofs.lemmas.Option.{same_Some}
use Rattle.std.proofs.lemmas.List.{get_or-set_other, get_or-set_same, length-replicate}
use Rattle.std.proofs.Math.ListN.{get_or-map}
use Rattle.uac_units.specs.SampleRows.{HaveTicks, frame_at}
use Rattle.uac_units.proofs.SampleRowsLemmas.{silent_at}
use Rattle.uac_graph.specs.TickRows.{RowSlots, SlotsHaveTicks, slot_frames}
use Rattle.uac_entities.specs.declared.entity.Entity.{Entity}
use Rattle.uac_graph.specs.Wiring.{AreSilent, Frames, frame_on, silence}
use Rattle.uac_graph.proofs.FrameRowsLemmas.{slot_written}
use Rattle.uac_graph.proofs.TickRowsLemmas.{slot_seen}

none_at : {X : Type 0} (n id : ℕ) → get_or (replicate {A = Option X} n None) id None ≡ None
none_at zero id = refl
none_at (suc n) zero = refl
none_at (suc n) (suc id) = none_at n id

-- no slot has rows
module _ {V : Type 0} (items : V → List (List ℤ)) where
  none_seen : (n id : ℕ) → get_or (map (option_map items) (replicate n None)) id None ≡ None
  none_seen n id = get_or-map (option_map items) (replicate n None) id None ∙ ap (option_map items) (none_at n id)

  pub no_frames : (n tick id : ℕ) → frame_on (slot_frames tick (map (option_map items) (replicate n None))) id ≡ None
  no_frames n tick id = slot_seen tick (map (option_map items) (replicate n None)) id ∙ ap (option_map (frame_at tick)) (none_seen n id)

  pub no_rows : (n ticks : ℕ) → SlotsHaveTicks ticks (map (option_map items) (replicate n None))
  no_rows n ticks id rows is = absurd (let none : Some rows ≡ None = sym is ∙ none_seen n id in cc)

-- silent rows have silent frames
pub silent_frame : (channels ticks tick : ℕ) → frame_at tick (replicate channels (replicate ticks (pos 0))) ≡ silence channels
silent_frame zero ticks tick = refl
silent_frame (suc channels) ticks tick =
    ap (λ (z : ℤ). z ∷ frame_at tick (replicate channels (replicate ticks (pos 0)))) (silent_at ticks tick)
    ∙ ap (λ (zs : List ℤ). pos 0 ∷ zs) (silent_frame channels ticks tick)

pub silent_ticks : (channels ticks : ℕ) → HaveTicks ticks (replicate channels (replicate ticks (pos 0)))
silent_ticks zero ticks i d below = absurd (omega (arith, below))
silent_ticks (suc channels) ticks zero d below = omega (arith, length-replicate ticks (pos 0))
silent_ticks (suc channels) ticks (suc i) d below = silent_ticks channels ticks i d (omega (arith, below))

-- rows put into a slot
pub ticks_set : (ticks : ℕ) (slots : RowSlots) (id : ℕ) (rows : List (List ℤ)) → id < length slots → SlotsHaveTicks ticks slots → HaveTicks ticks rows
    → SlotsHaveTicks ticks (set slots id (Some rows))
ticks_set ticks slots id rows below have given k found is =
    elim (cases_eq k id) [
      | inl same ↦
          (let here : Some rows ≡ Some found =
          sym (get_or-set_same slots id (Some rows) None below) ∙ ap (λ (n : ℕ). get_or (set slots id (Some rows)) n None) (sym same) ∙ is in
          subst (HaveTicks ticks) (same_Some rows found here) given)
      | inr other ↦ have k found (sym (get_or-set_other slots id k (Some rows) None other) ∙ is)
    ]

-- a slot that is the same at some tick
pub slot_stays : (tick : ℕ) (slots new now : RowSlots) (id : ℕ) (slot : Option (List (List ℤ))) → id < length slots → new ≡ set slots id slot → slots ≡ now
    → option_map (frame_at tick) slot ≡ option_map (frame_at tick) (get_or slots id None)
    → (k : ℕ) → frame_on (slot_frames tick new) k ≡ frame_on (slot_frames tick now) k
slot_stays tick slots new now id slot below is same e k =
    slot_written (frame_at tick) slots new id slot below is k
    ∙ ap (λ (o : Option (List ℤ)). if eqb id k then o else frame_on (slot_frames tick slots) k) (e ∙ sym (slot_seen tick slots id))
    ∙ by (cases_eq id k)
    ∙ ap (λ (s : RowSlots). frame_on (slot_frames tick s) k) same
  where
    by : (id ≡ k) ⊎ (id ≡ k → ⊥)
        → (if eqb id k then frame_on (slot_frames tick slots) id else frame_on (slot_frames tick slots) k) ≡ frame_on (slot_frames tick slots) k
    by (inl here) =
        ap (λ (b : Bool). if b then frame_on (slot_frames tick slots) id else frame_on (slot_frames tick slots) k) (eq-eqb id k here)
        ∙ ap (frame_on (slot_frames tick slots)) here
    by (inr other) = ap (λ (b : Bool). if b then frame_on (slot_frames tick slots) id else frame_on (slot_frames tick slots) k) (ne_eqb id k other)

-- silence on the wires of equal entities
pub silent_of : (entities others : List Entity) (frames : Frames) → entities ≡ others → AreSilent entities frames → AreSilent others frames
silent_of entities others frames same silent = subst (λ (es : List Entity). AreSilent es frames) same silent
