-- Numbers that stand in a list: of a row, of those of a list that pass a test, and of the interfaces that are known.
use Rattle.std.proofs.Common.{◌≡◌, ◌∙◌, sym, ap, subst, refl, arith, ℕ, zero, suc, ◌+◌, ◌≤◌, ◌<◌, ◌⊎◌, ◌==◌, nat_eq, Bool, true, false, cond, List, [], ◌∷◌, Some, is_some, inl, inr}
use Rattle.std.specs.List.{All, AllByRecursion, IsDistinct, filter, find, range_with_len}
use Rattle.std.proofs.lemmas.Bool.{cases_eq, true≢false}
use Rattle.std.proofs.lemmas.Map.Keys.{IsDistinct-cons, IsDistinct-head, IsDistinct-tail}
use Rattle.uac_entities.specs.declared.stream.StreamInterface.{StreamInterface}
use Rattle.uac_topology.specs.Function.{FunctionFields}
use Rattle.uac_alt.proofs.AltStreamsLemmas.{all_found}
use Rattle.uac_request.proofs.FunctionInterfaceLemmas.{has_number}
use Rattle.uac_streaming.specs.StreamingWorld.{numbers}

-- a number stands in a list
unfoldable pub Among : ℕ → List ℕ → Type 0
Among n [] = ⊥
Among n (m ∷ ms) = (m ≡ n) ⊎ Among n ms

pub among_first : (n : ℕ) (ns : List ℕ) → Among n (n ∷ ns)
unfolding Among
among_first n ns = inl refl

pub among_rest : (n m : ℕ) (ns : List ℕ) → Among n ns → Among n (m ∷ ns)
unfolding Among
among_rest n m ns there = inr there

pub among_none : (n : ℕ) → Among n [] → ⊥
unfolding Among
among_none n there = there

pub among_cases : (n m : ℕ) (ns : List ℕ) → Among n (m ∷ ns) → (m ≡ n) ⊎ Among n ns
unfolding Among
among_cases n m ns there = there

-- a number that none of a list is, and one of the list
pub apart_from : (n m : ℕ) (ns : List ℕ) → AllByRecursion (λ y. nat_eq n y ≡ false) ns → Among m ns → nat_eq n m ≡ false
unfolding Among
apart_from n m [] all there = absurd there
apart_from n m (y ∷ ns) all there = elim there [ inl same ↦ subst (λ (z : ℕ). nat_eq n z ≡ false) same all.0 | inr rest ↦ apart_from n m ns all.1 rest ]

kept_false : (test : ℕ → Bool) (n : ℕ) (ns : List ℕ) → AllByRecursion (λ y. nat_eq n y ≡ false) ns
    → AllByRecursion (λ y. nat_eq n y ≡ false) (filter test ns)
kept_false test n [] all = tt
kept_false test n (m ∷ ms) all = by (test m) (kept_false test n ms all.1)
  where
    by : (b : Bool) → AllByRecursion (λ y. nat_eq n y ≡ false) (filter test ms)
        → AllByRecursion (λ y. nat_eq n y ≡ false) (cond b (m ∷ filter test ms) (filter test ms))
    by true rest = (all.0, rest)
    by false rest = rest

pub kept_distinct : (test : ℕ → Bool) (ns : List ℕ) → IsDistinct nat_eq ns → IsDistinct nat_eq (filter test ns)
kept_distinct test [] once = once
kept_distinct test (n ∷ ns) once =
    by (test n) (kept_distinct test ns (IsDistinct-tail nat_eq n ns once))
  where
    by : (b : Bool) → IsDistinct nat_eq (filter test ns) → IsDistinct nat_eq (cond b (n ∷ filter test ns) (filter test ns))
    by true rest = IsDistinct-cons nat_eq n (filter test ns) (kept_false test n ns (IsDistinct-head nat_eq n ns once)) rest
    by false rest = rest

pub among_range : (k from count : ℕ) → from ≤ k → k < from + count → Among k (range_with_len from count)
unfolding Among
among_range k from zero low high = absurd (omega arith)
among_range k from (suc count) low high = elim (cases_eq from k) [ inl same ↦ inl same | inr other ↦ inr (among_range k (from + 1) count (omega (arith, other)) (omega arith)) ]

among_one : (test : ℕ → Bool) (k n : ℕ) (ns : List ℕ) (b : Bool) → test n ≡ b → test k ≡ true → (n ≡ k) ⊎ Among k ns
    → Among k (cond b (n ∷ ns) ns)
unfolding Among
among_one test k n ns true _ passes there = there
among_one test k n ns false fails passes (inl same) = absurd (true≢false (sym passes ∙ ap test (sym same) ∙ fails))
among_one test k n ns false fails passes (inr later) = later

pub among_kept : (test : ℕ → Bool) (k : ℕ) (ns : List ℕ) → test k ≡ true → Among k ns → Among k (filter test ns)
unfolding Among
among_kept test k [] passes there = absurd there
among_kept test k (n ∷ ns) passes there =
    among_one test k n (filter test ns) (test n) refl passes (elim there [ inl same ↦ inl same | inr later ↦ inr (among_kept test k ns passes later) ])

-- the interfaces that are known are among the numbers
pub known_among : (function : FunctionFields) (k : ℕ) (s : StreamInterface) → All (λ t. t.number < 256) function.streams
    → find (λ t. t.number == k) function.streams ≡ Some s → Among k (numbers function)
unfolding numbers
known_among function k s numbered known =
    let here : s.number < 256 = all_found (λ (t : StreamInterface). t.number < 256) (λ t. t.number == k) function.streams s numbered known in
    among_kept (λ n. is_some (find (λ t. t.number == n) function.streams)) k (range_with_len 0 256) (ap is_some known)
    (among_range k 0 256 (omega arith) (subst (λ (n : ℕ). n < 256) (has_number function.streams k s known) here))
