-- What is printed of transfers and of elements.
use Rattle.std.proofs.Common.{◌≡◌, ◌∙◌, sym, ap, subst, ℕ, ℤ, List, [], ◌∷◌, Option, Some, Result, slice_get}
use Rattle.uac_edges.specs.Writing.{Writes}
use Rattle.std.specs.Prelude.{if◌then◌else◌, is_some, Bool, true, false, unwrap_or, pos}
use Rattle.uac_store.specs.Keyed.{value_of}
use Rattle.uac_mixer.specs.MixerElements.{name_of}
use Rattle.uac_mixer.specs.declared.element.Element.{Element}
use Rattle.uac_running.specs.RunningWorld.{RunningWorld}
use Rattle.uac_running.specs.RunningTransfers.{read_sight}
use Rattle.uac_transcript.specs.Transcript.{TransferOutcome, Sight, element_has_value, says_answer, says_view, spelling_of, was_broken}
use Rattle.uac_transcript.specs.Printing.{Prints}
use Rattle.uac_transcript.proofs.PrintingLemmas.{Prints-line}

pub outcome_printed : {T E : Type 0} (old new : Option (List ℕ)) (r : Result T E) (o p : TransferOutcome) → o ≡ p → Writes old new r (spelling_of (says_answer p))
    → Prints old new r (says_answer o ∷ [])
outcome_printed old new r o p is w = Prints-line old new r (says_answer o) (subst (λ (x : TransferOutcome). Writes old new r (spelling_of (says_answer x))) (sym is) w)

pub outcome_seen : {T E : Type 0} (old new : Option (List ℕ)) (r : Result T E) {o p : TransferOutcome} → o ≡ p → Prints old new r (says_answer o ∷ [])
    → Prints old new r (says_answer p ∷ [])
outcome_seen old new r is w = subst (λ (x : TransferOutcome). Prints old new r (says_answer x ∷ [])) is w

-- a list of one line is that line
pub one_line : {T E : Type 0} (old new : Option (List ℕ)) (r : Result T E) (s t : Sight) → s ≡ t → Prints old new r (says_view s ∷ [])
    → Prints old new r (says_view t ∷ [])
one_line old new r s t is w = subst (λ (x : Sight). Prints old new r (says_view x ∷ [])) is w

pub sight_printed : {T E : Type 0} (old new : Option (List ℕ)) (r : Result T E) (s t : Sight) → s ≡ t → Writes old new r (spelling_of (says_view t))
    → Prints old new r (says_view s ∷ [])
sight_printed old new r s t is w = Prints-line old new r (says_view s) (subst (λ (x : Sight). Writes old new r (spelling_of (says_view x))) (sym is) w)

-- one element stands at an index
pub same_element : (xs : List Element) (at : ℕ) (x y : Element) → slice_get xs at ≡ Some x → slice_get xs at ≡ Some y → x ≡ y
same_element xs at x y here there = cc

-- what is said of an element that was read
pub read_value : (x : Element) (r : RunningWorld) (value : ℤ) → (is_some r.breaks ≡ false) × (value_of r.device.controls x.key ≡ Some value)
    → read_sight x r ≡ element_has_value (name_of x) value
read_value x r value is =
    ap (λ (b : Bool). if b then was_broken else element_has_value (name_of x) (unwrap_or (value_of r.device.controls x.key) (pos 0))) is.0
    ∙ ap (λ (o : Option ℤ). element_has_value (name_of x) (unwrap_or o (pos 0))) is.1

pub read_broken : (x : Element) (r : RunningWorld) → is_some r.breaks ≡ true → read_sight x r ≡ was_broken
read_broken x r is = ap (λ (b : Bool). if b then was_broken else element_has_value (name_of x) (unwrap_or (value_of r.device.controls x.key) (pos 0))) is
