-- An index at which a test passes, and the first one.
use Rattle.std.proofs.Common.{◌≡◌, ℕ, ◌+◌, ◌<◌, ◌≤◌, Bool, true, false, List, [], ◌∷◌, ◌++◌, Some, None, length, get_or, inl, inr, refl, sym, ap, ◌∙◌, arith, not}
use Rattle.std.specs.Prelude.{position}
use Rattle.std.specs.List.{list_any, position_or_len}
use Rattle.std.proofs.lemmas.Bool.{cases_lt, eq-eqb, ne_eqb, lt-ltb, le-ltb}
use Rattle.std.proofs.lemmas.List.{length_push}
use Rattle.std.proofs.lemmas.Option.{none-some, same_Some}
use Rattle.std.proofs.lemmas.List.Sums.{prefix_len-le-length}
use Rattle.std.proofs.lemmas.Grind.{get_or_default_zero}
use Rattle.std.proofs.lemmas.List.Folds.{Any-from_list_any, position_or_len_push}

-- where a test passes
pub any_at : (p : ℕ → Bool) (xs : List ℕ) → list_any p xs ≡ true → (k : ℕ) × (k < length xs) × (p (get_or xs k 0) ≡ true)
any_at p xs e =
    let any = Any-from_list_any p xs e in
    let value : get_or xs any.0 0 ≡ any.1 = sym (get_or_default_zero xs any.0 any.1 any.2) ∙ any.3 in
    (any.0, any.2, ap p value ∙ any.4)

module _ {X : Type 0} (p : X → Bool) (xs : List X) where
  pub or_len-le : position_or_len p xs ≤ length xs
  or_len-le = prefix_len-le-length (λ x. not (p x)) xs

  pub position-below : position_or_len p xs < length xs → position p xs ≡ Some (position_or_len p xs)
  position-below below = rw (lt-ltb (position_or_len p xs) (length xs) below) refl

  pub position-past : length xs ≤ position_or_len p xs → position p xs ≡ None
  position-past past = rw (le-ltb (position_or_len p xs) (length xs) past) refl

  pub position_is : (k : ℕ) → position p xs ≡ Some k → (k < length xs) × (position_or_len p xs ≡ k)
  position_is k e =
      elim (cases_lt (position_or_len p xs) (length xs)) [
        | inl below ↦
            (let s : position_or_len p xs ≡ k = same_Some (position_or_len p xs) k (sym (position-below below) ∙ e) in (omega arith, s))
        | inr past ↦ absurd (none-some k (sym (position-past past) ∙ e))
      ]

  pub position_none : position p xs ≡ None → position_or_len p xs ≡ length xs
  position_none e =
      elim (cases_lt (position_or_len p xs) (length xs)) [
        | inl below ↦ absurd (none-some (position_or_len p xs) (sym e ∙ position-below below))
        | inr past ↦ omega (arith, or_len-le)
      ]

module _ {X : Type 0} (p : X → Bool) (xs : List X) (y : X) where
  pub position-push_found : (k : ℕ) → position p xs ≡ Some k → position p (xs ++ y ∷ []) ≡ Some k
  position-push_found k e =
      let w = position_is p xs k e in
      let n : (position_or_len p xs ≡ length xs) → ⊥ = λ i. omega (arith, w.0, w.1) in
      let same : position_or_len p (xs ++ y ∷ []) ≡ k = position_or_len_push p xs y ∙ rw (ne_eqb (position_or_len p xs) (length xs) n) w.1 in
      position-below p (xs ++ y ∷ []) (omega (arith, same, w.0, length_push xs y)) ∙ ap (λ (i : ℕ). Some i) same

  pub position-push_new : position p xs ≡ None → p y ≡ true → position p (xs ++ y ∷ []) ≡ Some (length xs)
  position-push_new e t =
      let z = position_none p xs e in
      let same : position_or_len p (xs ++ y ∷ []) ≡ length xs + 0 =
      position_or_len_push p xs y ∙ rw (eq-eqb (position_or_len p xs) (length xs) z, t) refl in
      position-below p (xs ++ y ∷ []) (omega (arith, same, length_push xs y)) ∙ ap (λ (i : ℕ). Some i) (let q : position_or_len p (xs ++ y ∷ []) ≡ length xs = omega arith in q)

  pub position-push_none : position p xs ≡ None → p y ≡ false → position p (xs ++ y ∷ []) ≡ None
  position-push_none e t =
      let z = position_none p xs e in
      let same : position_or_len p (xs ++ y ∷ []) ≡ length xs + 1 =
      position_or_len_push p xs y ∙ rw (eq-eqb (position_or_len p xs) (length xs) z, t) refl in
      position-past p (xs ++ y ∷ []) (omega (arith, same, length_push xs y))
