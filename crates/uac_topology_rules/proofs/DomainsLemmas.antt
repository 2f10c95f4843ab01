-- One number more in a list whose later copies are left out.
use Rattle.std.proofs.Common.{◌≡◌, ℕ, Bool, true, false, ◌==◌, ◌||◌, not, if◌then◌else◌, List, [], ◌∷◌, ◌++◌, refl, sym, ap, ◌∙◌, inl, inr}
use Rattle.std.specs.List.{list_any, filter}
use Rattle.std.proofs.lemmas.Bool.{cases_Bool, eqb-true, eq-eqb, ne_eqb, eqb-false}
use Rattle.std.proofs.lemmas.List.{append-nil}
use Rattle.std.proofs.lemmas.List.Elements.{filter-append}
use Rattle.uac_topology_rules.specs.Domains.{each_once}

-- leaving out another number leaves it there
any_other : (n x : ℕ) (ns : List ℕ) → (n == x) ≡ false → list_any (λ c. c == x) (filter (λ m. not (m == n)) ns) ≡ list_any (λ c. c == x) ns
any_other n x [] apart = refl
any_other n x (m ∷ ns) apart =
    elim (cases_Bool (m == n)) [
      | inl same ↦
          (let other : (m == x) ≡ false = ap (λ (k : ℕ). k == x) (eqb-true m n same) ∙ apart in rw (same, other) (any_other n x ns apart))
      | inr differs ↦ rw differs (ap (λ (b : Bool). (m == x) || b) (any_other n x ns apart))
    ]

-- the number goes after the others, if it is none of them
pub each_once-push : (ns : List ℕ) (x : ℕ) →
    each_once (ns ++ x ∷ []) ≡ (if list_any (λ c. c == x) (each_once ns) then each_once ns else each_once ns ++ x ∷ [])
unfolding each_once
each_once-push [] x = refl
each_once-push (n ∷ ns) x =
    ap (λ (ms : List ℕ). n ∷ filter (λ m. not (m == n)) ms) (each_once-push ns x) ∙ elim (cases_Bool (n == x)) [
      | inl same ↦ here n x (each_once ns) same
      | inr apart ↦ there n x (each_once ns) apart
    ]
  where
    here : (n x : ℕ) (rest : List ℕ) → (n == x) ≡ true →
        n ∷ filter (λ m. not (m == n)) (if list_any (λ c. c == x) rest then rest else rest ++ x ∷ [])
        ≡ (if list_any (λ c. c == x) (n ∷ filter (λ m. not (m == n)) rest) then n ∷ filter (λ m. not (m == n)) rest else n ∷ filter (λ m. not (m == n)) rest ++ x ∷ [])
    here n x rest same =
        let back : (x == n) ≡ true = eq-eqb x n (sym (eqb-true n x same)) in
        let dropped : filter (λ m. not (m == n)) (x ∷ []) ≡ [] = rw back refl in
        elim (cases_Bool (list_any (λ c. c == x) rest)) [
          | inl known ↦ rw (same, known) refl
          | inr new ↦
              rw (same, new)
              (ap (λ (ms : List ℕ). n ∷ ms)
              (filter-append (λ m. not (m == n)) rest (x ∷ [])
              ∙ ap (λ (ms : List ℕ). filter (λ m. not (m == n)) rest ++ ms) dropped
              ∙ append-nil (filter (λ m. not (m == n)) rest)))
        ]

    there : (n x : ℕ) (rest : List ℕ) → (n == x) ≡ false →
        n ∷ filter (λ m. not (m == n)) (if list_any (λ c. c == x) rest then rest else rest ++ x ∷ [])
        ≡ (if list_any (λ c. c == x) (n ∷ filter (λ m. not (m == n)) rest) then n ∷ filter (λ m. not (m == n)) rest else n ∷ filter (λ m. not (m == n)) rest ++ x ∷ [])
    there n x rest apart =
        let back : (x == n) ≡ false = ne_eqb x n (λ e. eqb-false n x apart (sym e)) in
        let kept : filter (λ m. not (m == n)) (x ∷ []) ≡ x ∷ [] = rw back refl in
        elim (cases_Bool (list_any (λ c. c == x) rest)) [
          | inl known ↦ rw (apart, any_other n x rest apart, known) refl
          | inr new ↦
              rw (apart, any_other n x rest apart, new)
              (ap (λ (ms : List ℕ). n ∷ ms)
              (filter-append (λ m. not (m == n)) rest (x ∷ [])
              ∙ ap (λ (ms : List ℕ). filter (λ m. not (m == n)) rest ++ ms) kept))
        ]
