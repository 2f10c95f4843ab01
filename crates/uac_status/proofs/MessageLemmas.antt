-- Messages and the elements that they are of.
use Rattle.std.proofs.Common.{◌≡◌, ◌∙◌, refl, ap, sym, subst, ℕ, ◌<◌, ◌||◌, ◌↔◌, zero, suc, not, Bool, true, false, if◌then◌else◌, List, [], ◌∷◌, length, position, slice_get, Option, Some, None, is_some, IfSome, arith}
use Rattle.std.specs.List.{find}
use Rattle.std.specs.Option.{option_and_then}
use Rattle.std.proofs.lemmas.Bool.{eq-eqb}
use Rattle.std.proofs.lemmas.List.Folds.{find_at}
use Rattle.std.proofs.lemmas.Option.{slice_get_past}
use Rattle.uac_topology_rules.proofs.ListFindLemmas.{position_is, position_none}
use Rattle.uac_store.specs.declared.keys.Key.{Key}
use Rattle.uac_store.specs.Keyed.{same_key}
use Rattle.uac_mixer.specs.declared.element.Element.{Element}
use Rattle.uac_status.specs.Messages.{element_keyed, is_foreign, is_of_interface, key_told, message_of}

-- ---- the element at the place that was found

-- the first that passes, by its place
pub found_at : {X : Type 0} (p : X → Bool) (xs : List X) → option_and_then (slice_get xs) (position p xs) ≡ find p xs
found_at p xs = from (position p xs) refl where
  from : (o : Option ℕ) → position p xs ≡ o → option_and_then (slice_get xs) o ≡ find p xs
  from (Some k) found = (let w = position_is p xs k found in ap (slice_get xs) (sym w.1) ∙ sym (find_at p xs))
  from None none = sym (find_at p xs ∙ ap (slice_get xs) (position_none p xs none) ∙ slice_get_past xs (length xs) (omega arith))

-- it is within the list
pub within : {X : Type 0} (p : X → Bool) (xs : List X) → IfSome (position p xs) (λ at. at < length xs)
within p xs = from (position p xs) refl where
  from : (o : Option ℕ) → position p xs ≡ o → IfSome o (λ at. at < length xs)
  from (Some k) found = (position_is p xs k found).0
  from None none = tt

-- none is found exactly where no place is
find_none : {X : Type 0} (p : X → Bool) (xs : List X) → position p xs ≡ None → find p xs ≡ None
find_none p xs none = sym (found_at p xs) ∙ ap (option_and_then (slice_get xs)) none

-- ---- messages of elements

-- one that is of something else
pub foreign_one : (control : ℕ) (elements : List Element) (message : List ℕ) → is_of_interface control message ≡ false → is_foreign control elements message ≡ true
foreign_one control elements message other = ap (λ (b : Bool). not b || not (is_some (element_keyed elements (key_told message)))) other

-- one of the interface is foreign where no element has the key
own_one : (control : ℕ) (elements : List Element) (message : List ℕ) → is_of_interface control message ≡ true
    → is_foreign control elements message ≡ not (is_some (element_keyed elements (key_told message)))
own_one control elements message own = ap (λ (b : Bool). not b || not (is_some (element_keyed elements (key_told message)))) own

if_none : (o : Option Element) → o ≡ (if not (is_some o) then None else o)
if_none None = refl
if_none (Some x) = refl

pub found_one : (control : ℕ) (elements : List Element) (message : List ℕ) (at : Option ℕ) → is_of_interface control message ≡ true
    → at ≡ position (λ x. same_key x.key (key_told message)) elements
    → option_and_then (slice_get elements) at ≡ (if is_foreign control elements message then None else element_keyed elements (key_told message))
found_one control elements message at own is =
    ap (option_and_then (slice_get elements)) is ∙ found_at (λ x. same_key x.key (key_told message)) elements
    ∙ if_none (element_keyed elements (key_told message))
    ∙ ap (λ (b : Bool). if b then None else element_keyed elements (key_told message)) (sym (own_one control elements message own))

pub within_one : (elements : List Element) (k : Key) (at : Option ℕ) → at ≡ position (λ x. same_key x.key k) elements → IfSome at (λ i. i < length elements)
within_one elements k at is = subst (λ (o : Option ℕ). IfSome o (λ i. i < length elements)) (sym is) (within (λ x. same_key x.key k) elements)

pub none_found : (control : ℕ) (elements : List Element) (message : List ℕ) (at : Option ℕ) → is_of_interface control message ≡ true
    → at ≡ position (λ x. same_key x.key (key_told message)) elements → (at ≡ None) ↔ (is_foreign control elements message ≡ true)
none_found control elements message at own is = (
  λ none. own_one control elements message own ∙ ap (λ (o : Option Element). not (is_some o)) (find_none (λ x. same_key x.key (key_told message)) elements (sym is ∙ none)),
  λ foreign. is ∙ by (position (λ x. same_key x.key (key_told message)) elements) refl (sym (own_one control elements message own) ∙ foreign),
) where
  some_found : (k : ℕ) → position (λ x. same_key x.key (key_told message)) elements ≡ Some k → is_some (element_keyed elements (key_told message)) ≡ true
  some_found k found =
      let inside : k < length elements = (position_is (λ x. same_key x.key (key_told message)) elements k found).0 in
      let e = there elements k inside in
      ap is_some (sym (found_at (λ x. same_key x.key (key_told message)) elements) ∙ ap (option_and_then (slice_get elements)) found ∙ e.1) where
        there : (xs : List Element) (at : ℕ) → at < length xs → (x : Element) × (slice_get xs at ≡ Some x)
        there [] at below = absurd (omega arith)
        there (x ∷ xs) zero below = (x, refl)
        there (x ∷ xs) (suc n) below = there xs n (omega arith)

  by : (o : Option ℕ) → position (λ x. same_key x.key (key_told message)) elements ≡ o → not (is_some (element_keyed elements (key_told message))) ≡ true → o ≡ None
  by None found foreign = refl
  by (Some k) found foreign = absurd (let some = some_found k found in let no : false ≡ true = ap not (sym some) ∙ foreign in cc)

-- the message of a key that is shown is of its element
pub own_message : (control : ℕ) (elements : List Element) (k : Key) → is_some (element_keyed elements k) ≡ true → is_foreign control elements (message_of control k) ≡ false
own_message control elements k shown =
    ap (λ (b : Bool). not b || not (is_some (element_keyed elements k))) (eq-eqb control control refl) ∙ ap not shown
