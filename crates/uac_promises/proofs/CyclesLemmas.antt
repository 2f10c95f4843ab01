-- Where each node names lesser ones alone, no links come round.
use Rattle.std.proofs.Common.{◌≡◌, sym, refl, subst, ℕ, zero, suc, ◌+◌, ◌≤◌, ◌<◌, ◌&&◌, Bool, true, List, [], ◌∷◌, get_or, arith, inl, inr, add-zero}
use Rattle.std.specs.Prelude.{nat_lt}
use Rattle.std.specs.List.{list_all, list_any}
use Rattle.std.proofs.lemmas.Bool.{and_parts, eqb-true, ltb-true, or_cases, true≢false}
use Rattle.uac_topology_rules.specs.Walk.{leads, links}
use Rattle.uac_topology_rules.specs.Cycles.{HasCycle}

-- the nodes from this one on name lesser ones
abbrev pub descends_from : ℕ → List (List ℕ) → Bool
descends_from n [] = true
descends_from n (named ∷ rest) = list_all (λ t. nat_lt t n) named && descends_from (suc n) rest

named_below : (n : ℕ) (graph : List (List ℕ)) (v : ℕ) → descends_from n graph ≡ true → list_all (λ t. nat_lt t (n + v)) (get_or graph v []) ≡ true
named_below n [] v down = refl
named_below n (named ∷ rest) zero down = rw add-zero (and_parts _ _ down).0
named_below n (named ∷ rest) (suc v) down =
    let same : suc n + v ≡ n + suc v = omega arith in
    subst (λ (m : ℕ). list_all (λ t. nat_lt t m) (get_or rest v []) ≡ true) same (named_below (suc n) rest v (and_parts _ _ down).1)

any_below : (test : ℕ → Bool) (v : ℕ) (named : List ℕ) → list_all (λ t. nat_lt t v) named ≡ true → list_any test named ≡ true
    → (t : ℕ) × (t < v) × (test t ≡ true)
any_below test v [] all any = absurd (true≢false (sym any))
any_below test v (t ∷ named) all any =
    let parts = and_parts (nat_lt t v) (list_all (λ t. nat_lt t v) named) all in
    elim (or_cases (test t) (list_any test named) any) [
      | inl here ↦ (t, ltb-true t v parts.0, here)
      | inr later ↦ any_below test v named parts.1 later
    ]

module _ (graph : List (List ℕ)) (down : descends_from 0 graph ≡ true) where
  -- a walk leads down by a node for each link at least
  leads_down : (n v w : ℕ) → leads graph n v w ≡ true → w + n ≤ v
  unfolding leads
  leads_down zero v w there = let same = eqb-true v w there in omega arith
  leads_down (suc n) v w there =
      let below : list_all (λ t. nat_lt t v) (links graph v) ≡ true =
      subst (λ (m : ℕ). list_all (λ t. nat_lt t m) (links graph v) ≡ true) (let same : 0 + v ≡ v = omega arith in same)
      (named_below 0 graph v down) in
      let next = any_below (λ t. leads graph n t w) v (links graph v) below there in
      let rest = leads_down n next.0 w next.2 in
      omega (arith, rest, next.1)

  pub none_round : HasCycle graph → ⊥
  none_round cycle = let less = leads_down (suc cycle.within) cycle.node cycle.node cycle.again in omega (arith, less)
