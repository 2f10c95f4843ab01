-- Laws of walks.
use Rattle.std.proofs.Common.{◌≡◌, ℕ, ◌+◌, ◌<◌, Bool, true, false, List, [], ◌∷◌, zero, suc, length, get_or, refl, sym, arith, inl, inr, zero-add, subst}
use Rattle.std.proofs.Math.Nat.{suc-add}
use Rattle.std.specs.List.{list_any}
use Rattle.std.proofs.lemmas.Bool.{or_from, or_parts, or_left, or_right, or_cases, cases_Bool, both_ways, eqb-true}
use Rattle.uac_topology_rules.specs.Walk.{links, has_walk, leads, NoWayBack}

-- no element passes
pub any_none : {X : Type 0} (p : X → Bool) (xs : List X) (d : X) → ((k : ℕ) → k < length xs → p (get_or xs k d) ≡ false) → list_any p xs ≡ false
any_none p [] d h = refl
any_none p (x ∷ xs) d h =
    or_from (p x) (list_any p xs) (h 0 (omega arith)) (any_none p xs d (λ k below. h (suc k) (omega arith)))

-- what passes no test stands nowhere
pub none_at : {X : Type 0} (p : X → Bool) (xs : List X) (k : ℕ) (d : X) → k < length xs → list_any p xs ≡ false → p (get_or xs k d) ≡ false
none_at p [] k d h e = absurd (omega arith)
none_at p (x ∷ xs) zero d h e = (or_parts (p x) (list_any p xs) e).0
none_at p (x ∷ xs) (suc k) d h e = none_at p xs k d (omega arith) (or_parts (p x) (list_any p xs) e).1

-- where no walk of n links leads on, none of n + 1 does
pub no_more : (graph : List (List ℕ)) (n v : ℕ) → has_walk graph n v ≡ false → has_walk graph (suc n) v ≡ false
unfolding has_walk
no_more graph zero v e = absurd (cc)
no_more graph (suc n) v e =
    any_none (has_walk graph (suc n)) (links graph v) 0 (λ k below. no_more graph n _ (none_at (has_walk graph n) (links graph v) k 0 below e))

pub no_longer : (graph : List (List ℕ)) (i n v : ℕ) → has_walk graph n v ≡ false → has_walk graph (i + n) v ≡ false
no_longer graph zero n v e = rw (zero-add n) e
no_longer graph (suc i) n v e = rw (suc-add i n) (no_more graph (i + n) v (no_longer graph i n v e))

-- a walk on from where another ends
pub joined : (graph : List (List ℕ)) (n m v w : ℕ) → leads graph n v w ≡ true → has_walk graph m w ≡ true → has_walk graph (n + m) v ≡ true
unfolding leads has_walk
joined graph zero m v w e h = rw (zero-add m) (subst (λ (x : ℕ). has_walk graph m x ≡ true) (sym (eqb-true v w e)) h)
joined graph (suc n) m v w e h =
    rw (suc-add n m) (any_of (λ t. leads graph n t w) (has_walk graph (n + m)) (λ t s. joined graph n m t w s h) (links graph v) e)
  where
    any_of : (p q : ℕ → Bool) → ((t : ℕ) → p t ≡ true → q t ≡ true) → (xs : List ℕ) → list_any p xs ≡ true → list_any q xs ≡ true
    any_of p q h [] e = absurd (cc)
    any_of p q h (x ∷ xs) e =
        elim (or_cases (p x) (list_any p xs) e) [
          | inl a ↦ or_left (q x) (list_any q xs) (h x a)
          | inr b ↦ or_right (q x) (list_any q xs) (any_of p q h xs b)
        ]

-- where a walk leads back, walks go on for ever
pub for_ever : (graph : List (List ℕ)) (n v : ℕ) → leads graph (suc n) v v ≡ true → (m : ℕ) → has_walk graph m v ≡ true
unfolding has_walk
for_ever graph n v e zero = refl
for_ever graph n v e (suc m) =
    elim (cases_Bool (has_walk graph (suc m) v)) [
      | inl t ↦ t
      | inr f ↦
          (let on : has_walk graph (suc n + m) v ≡ true = joined graph (suc n) m v v e (for_ever graph n v e m) in
          let off : has_walk graph (n + suc m) v ≡ false = no_longer graph n (suc m) v f in
          let same : suc n + m ≡ n + suc m = omega arith in
          absurd (both_ways (has_walk graph (n + suc m) v) off (subst (λ (i : ℕ). has_walk graph i v ≡ true) same on)))
    ]

pub no_way_back_lem : NoWayBack
no_way_back_lem graph v e n =
    elim (cases_Bool (leads graph (suc n) v v)) [
      | inl t ↦ absurd (both_ways (has_walk graph (length graph) v) e (for_ever graph n v t (length graph)))
      | inr f ↦ f
    ]
