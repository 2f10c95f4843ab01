-- How often a node stands in a list, and how many of a list's nodes stand in another.
use Rattle.std.proofs.Common.{◌≡◌, ℕ, ◌+◌, ◌<◌, ◌≤◌, ◌==◌, Bool, true, false, cond, eqb, List, [], ◌∷◌, ◌++◌, zero, suc, length, get_or, take, inl, inr, refl, sym, ap, ◌∙◌, subst, arith}
use Rattle.std.specs.List.{list_any, IsDistinct, AllByRecursion}
use Rattle.std.proofs.lemmas.Bool.{cases_eq, cases_lt, eq-eqb, ne_eqb}
use Rattle.std.proofs.lemmas.List.Sums.{sum_by-cons, sum_by_push, get_or-le-sum_by}
use Rattle.uac_topology_rules.specs.Count.{times, times_in}

abbrev pub one : Bool → ℕ
one b = cond b 1 0

pub times-cons : (v x : ℕ) (xs : List ℕ) → times v (x ∷ xs) ≡ one (eqb x v) + times v xs
times-cons v x xs = sum_by-cons (λ u. one (eqb u v)) x xs

pub times-push : (v : ℕ) (xs : List ℕ) (x : ℕ) → times v (xs ++ x ∷ []) ≡ times v xs + one (eqb x v)
times-push v xs x = sum_by_push (λ u. one (eqb u v)) xs x

pub one_same : (a b : ℕ) → a ≡ b → one (eqb a b) ≡ 1
one_same a b e = ap one (eq-eqb a b e)

pub one_other : (a b : ℕ) → (a ≡ b → ⊥) → one (eqb a b) ≡ 0
one_other a b e = ap one (ne_eqb a b e)

pub one_flip : (a b : ℕ) → one (eqb a b) ≡ one (eqb b a)
one_flip a b =
    elim (cases_eq a b) [
      | inl e ↦ one_same a b e ∙ sym (one_same b a (sym e))
      | inr n ↦ one_other a b n ∙ sym (one_other b a (λ e. n (sym e)))
    ]

pub times_in-cons : (ps : List ℕ) (x : ℕ) (xs : List ℕ) → times_in ps (x ∷ xs) ≡ times x ps + times_in ps xs
times_in-cons ps x xs = sum_by-cons (λ t. times t ps) x xs

-- one more node is seen as often as it is named
pub times_in-push : (ps : List ℕ) (u : ℕ) (xs : List ℕ) → times_in (ps ++ u ∷ []) xs ≡ times_in ps xs + times u xs
times_in-push ps u [] = refl
times_in-push ps u (x ∷ xs) =
    omega (arith, times_in-cons (ps ++ u ∷ []) x xs, times_in-cons ps x xs, times-push x ps u, times-cons u x xs, one_flip u x, times_in-push ps u xs)

-- where no node stands twice, at most all are seen
pub times_in-le : (ps xs : List ℕ) → ((q : ℕ) → times q ps ≤ 1) → times_in ps xs ≤ length xs
times_in-le ps [] once = omega arith
times_in-le ps (x ∷ xs) once = omega (arith, times_in-cons ps x xs, once x, times_in-le ps xs once)

-- where all are seen, each stands there
pub seen_all : (ps xs : List ℕ) → ((q : ℕ) → times q ps ≤ 1) → length xs ≤ times_in ps xs → (k : ℕ) → k < length xs → 0 < times (get_or xs k 0) ps
seen_all ps [] once all k h = absurd (omega arith)
seen_all ps (x ∷ xs) once all zero h = omega (arith, times_in-cons ps x xs, once x, times_in-le ps xs once)
seen_all ps (x ∷ xs) once all (suc k) h =
    seen_all ps xs once (omega (arith, times_in-cons ps x xs, once x)) k (omega arith)

-- where not all are seen, one stands not there
pub seen_short : (ps xs : List ℕ) → times_in ps xs < length xs → (k : ℕ) × (k < length xs) × (times (get_or xs k 0) ps ≡ 0)
seen_short ps [] h = absurd (omega arith)
seen_short ps (x ∷ xs) h =
    elim (cases_lt 0 (times x ps)) [
      | inl some ↦ (let r = seen_short ps xs (omega (arith, times_in-cons ps x xs)) in (suc r.0, omega (arith, r.1), r.2))
      | inr none ↦ (0, omega arith, omega arith)
    ]

pub index_of : (q : ℕ) (ps : List ℕ) → 0 < times q ps → (j : ℕ) × (j < length ps) × (get_or ps j 0 ≡ q)
index_of q [] h = absurd (omega arith)
index_of q (x ∷ xs) h =
    elim (cases_eq x q) [
      | inl e ↦ (0, omega arith, e)
      | inr n ↦ (let r = index_of q xs (omega (arith, times-cons q x xs, one_other x q n)) in (suc r.0, omega (arith, r.1), r.2))
    ]

pub times_at : (ps : List ℕ) (k : ℕ) → k < length ps → 0 < times (get_or ps k 0) ps
times_at ps k h =
    omega (arith, get_or-le-sum_by (λ u. one (eqb u (get_or ps k 0))) ps k 0 h, one_same (get_or ps k 0) (get_or ps k 0) refl)

-- a node that stands at place k stands in the first k less often than in all
pub times_before : (q : ℕ) (ps : List ℕ) (n k : ℕ) → n ≤ k → k < length ps → get_or ps k 0 ≡ q → times q (take n ps) < times q ps
times_before q [] n k a h e = absurd (omega arith)
times_before q (x ∷ xs) zero k a h e = subst (λ (v : ℕ). 0 < times v (x ∷ xs)) e (times_at (x ∷ xs) k h)
times_before q (x ∷ xs) (suc n) zero a h e = absurd (omega arith)
times_before q (x ∷ xs) (suc n) (suc k) a h e =
    omega (arith, times-cons q x xs, times-cons q x (take n xs), times_before q xs n k (omega arith) (omega arith) e)

-- a test of each of a list's nodes against v
pub any_from_times : (v : ℕ) (ps : List ℕ) → 0 < times v ps → list_any (λ u. u == v) ps ≡ true
any_from_times v [] h = absurd (omega arith)
any_from_times v (x ∷ xs) h =
    elim (cases_eq x v) [
      | inl e ↦ rw (eq-eqb x v e) refl
      | inr n ↦ rw (ne_eqb x v n) (any_from_times v xs (omega (arith, times-cons v x xs, one_other x v n)))
    ]

pub none_from_times : (v : ℕ) (ps : List ℕ) → times v ps ≡ 0 → list_any (λ u. u == v) ps ≡ false
none_from_times v [] h = refl
none_from_times v (x ∷ xs) h =
    elim (cases_eq x v) [
      | inl e ↦ absurd (omega (arith, times-cons v x xs, one_same x v e))
      | inr n ↦ rw (ne_eqb x v n) (none_from_times v xs (omega (arith, times-cons v x xs)))
    ]

pub no_equal : (v : ℕ) (ps : List ℕ) → times v ps ≡ 0 → list_any (eqb v) ps ≡ false
no_equal v [] h = refl
no_equal v (x ∷ xs) h =
    elim (cases_eq x v) [
      | inl e ↦ absurd (omega (arith, times-cons v x xs, one_same x v e))
      | inr n ↦ rw (ne_eqb v x (λ e. n (sym e))) (no_equal v xs (omega (arith, times-cons v x xs)))
    ]

-- nodes that stand once each and lie below n are at most n
none_equal : (x : ℕ) (xs : List ℕ) → times x xs ≡ 0 → AllByRecursion (λ y. eqb x y ≡ false) xs
none_equal x [] h = tt
none_equal x (y ∷ ys) h = (
  elim (cases_eq y x) [
    | inl e ↦ absurd (omega (arith, times-cons x y ys, one_same y x e))
    | inr n ↦ ne_eqb x y (λ e. n (sym e))
  ],
  none_equal x ys (omega (arith, times-cons x y ys)),
)

pub IsDistinct-from_times : (xs : List ℕ) → ((q : ℕ) → times q xs ≤ 1) → IsDistinct eqb xs
unfolding IsDistinct
IsDistinct-from_times [] once = tt
IsDistinct-from_times (x ∷ xs) once = (
  none_equal x xs (omega (arith, once x, times-cons x x xs, one_same x x refl)),
  IsDistinct-from_times xs (λ q. omega (arith, once q, times-cons q x xs)),
)
