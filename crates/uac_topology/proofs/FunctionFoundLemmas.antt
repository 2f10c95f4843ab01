-- An element that is found, by its index: the entity with an id, and the streaming interface with a number.
use Rattle.std.proofs.Common.{◌≡◌, ℕ, ◌<◌, ◌==◌, nat_lt, Bool, true, false, cond, List, length, position, slice_get, get_or, is_some, IfSome, Bor, Option, Some, None, refl, sym, ap, ◌∙◌}
use Rattle.std.specs.Option.{option_and_then, option_map}
use Rattle.std.specs.List.{find, position_or_len}
use Rattle.std.proofs.lemmas.Bool.{ltb-false, ltb-true}
use Rattle.std.proofs.lemmas.List.Folds.{find_at}
use Rattle.std.proofs.lemmas.Option.{slice_get_past, slice_get-get_or}
use Rattle.uac_entities.specs.EntityInterfaces.{entity_by_id}
use Rattle.uac_entities.specs.declared.entity.Entity.{Entity}
use Rattle.uac_topology_rules.specs.Table.{first_index_of}

positioned_is_found : {A : Type 0} (is : A → Bool) (xs : List A) → option_and_then (slice_get xs) (position is xs) ≡ find is xs
positioned_is_found is xs = from (nat_lt index (length xs)) refl ∙ sym (find_at is xs) where
  index : ℕ
  index = position_or_len is xs

  from : (b : Bool) → nat_lt index (length xs) ≡ b
      → option_and_then (slice_get xs) (cond (nat_lt index (length xs)) (Some index) None) ≡ slice_get xs index
  from true here = ap (λ (b : Bool). option_and_then (slice_get xs) (cond b (Some index) None)) here
  from false past =
      ap (λ (b : Bool). option_and_then (slice_get xs) (cond b (Some index) None)) past
      ∙ sym (slice_get_past xs index (ltb-false index (length xs) past))

pub found_at : {A : Type 0} (is : A → Bool) (xs : List A) (index : ℕ) → position is xs ≡ Some index → slice_get xs index ≡ find is xs
found_at is xs index there = ap (option_and_then (slice_get xs)) (sym there) ∙ positioned_is_found is xs

pub found_nowhere : {A : Type 0} (is : A → Bool) (xs : List A) → position is xs ≡ None → None ≡ find is xs
found_nowhere is xs none = ap (option_and_then (slice_get xs)) (sym none) ∙ positioned_is_found is xs

pub named_at : (entities : List Entity) (id index : ℕ) → first_index_of entities id ≡ Some index → slice_get entities index ≡ entity_by_id entities id
unfolding entity_by_id first_index_of
named_at entities id index is = found_at (λ (e : Entity). e.id == id) entities index is

pub named_nowhere : (entities : List Entity) (id : ℕ) → first_index_of entities id ≡ None → None ≡ entity_by_id entities id
unfolding entity_by_id first_index_of
named_nowhere entities id is = found_nowhere (λ (e : Entity). e.id == id) entities is

-- an element that is looked up, under its reference
pub looked_up : {A : Type 0} (r : Option (Bor A)) (xs : List A) (i : ℕ) → is_some r ≡ nat_lt i (length xs) → IfSome r (λ x. x.now ≡ get_or xs i x.now)
    → option_map (λ x. x.now) r ≡ slice_get xs i
looked_up None xs i there at = sym (slice_get_past xs i (ltb-false i (length xs) (sym there)))
looked_up {A = A} (Some x) xs i there at =
    let within : i < length xs = ltb-true i (length xs) (sym there) in
    ap (λ (y : A). Some y) at ∙ sym (slice_get-get_or xs i x.now within)
