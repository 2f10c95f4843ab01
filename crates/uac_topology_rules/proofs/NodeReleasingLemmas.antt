-- The counting from its start to its end.
use Rattle.std.proofs.Common.{◌≡◌, ℕ, ◌+◌, ◌-◌, ◌<◌, ◌≤◌, ◌==◌, true, false, not, eqb, List, [], ◌∷◌, ◌++◌, zero, suc, length, get_or, take, map, inl, inr, refl, sym, ap, ◌∙◌, subst, arith}
use Rattle.std.specs.List.{list_any, All}
use Rattle.std.proofs.lemmas.Bool.{cases_eq, cases_lt, eq-eqb, ne_eqb, lt-ltb, le-ltb}
use Rattle.std.proofs.lemmas.List.{get_or-take, take_more, take_all, take-take, get_or_past, get_or_default, get_or-map, length-map, length-take-le}
use Rattle.std.proofs.lemmas.List.Folds.{list_any_at}
use Rattle.std.proofs.lemmas.List.Sums.{sum_by-take-le}
use Rattle.std.proofs.lemmas.Map.Steps.{length-le_from_distinct_below}
use Rattle.uac_topology_rules.specs.Walk.{links, has_walk}
use Rattle.uac_topology_rules.specs.Count.{times, times_in}
use Rattle.uac_topology_rules.specs.Order.{IsClosed, IsAmongFirst, IsOrder}
use Rattle.uac_topology_rules.specs.Noting.{IsNamedBy}
use Rattle.uac_topology_rules.specs.NodeReleasing.{Releases, IsReleased}
use Rattle.uac_topology_rules.proofs.CountLemmas.{one, times_at, times_before, index_of, times_in-push, times_in-cons, times_in-le, seen_all, seen_short, any_from_times, none_from_times, no_equal, IsDistinct-from_times}
use Rattle.uac_topology_rules.proofs.WalkLemmas.{any_none, no_longer}

-- a node that stands nowhere below the number of nodes
none_past : (graph : List (List ℕ)) (order : List ℕ) → ((k : ℕ) → k < length order → get_or order k 0 < length graph) →
    (q : ℕ) → length graph ≤ q → times q order ≡ 0
none_past graph order nodes q past =
    elim (cases_lt 0 (times q order)) [
      | inl some ↦ (let p = index_of q order some in absurd (omega (arith, nodes p.0 p.1, p.2)))
      | inr none ↦ omega arith
    ]

-- each node stands in the order at most once
pub once_each : (graph : List (List ℕ)) (done : ℕ) (waiting order : List ℕ) → IsReleased graph done waiting order → (q : ℕ) → times q order ≤ 1
once_each graph done waiting order h q =
    elim (cases_lt q (length graph)) [
      | inl below ↦
          elim (cases_eq (get_or waiting q 0) 0) [
            | inl e ↦ (let r : times q order ≡ 1 = rw (eq-eqb (get_or waiting q 0) 0 e) at (h.once q below) in omega arith)
            | inr n ↦ (let r : times q order ≡ 0 = rw (ne_eqb (get_or waiting q 0) 0 n) at (h.once q below) in omega arith)
          ]
      | inr past ↦ omega (arith, none_past graph order h.nodes q past)
    ]

-- so in each front of the order too
once_in_front : (graph : List (List ℕ)) (done : ℕ) (waiting order : List ℕ) → IsReleased graph done waiting order → (n q : ℕ) → times q (take n order) ≤ 1
once_in_front graph done waiting order h n q =
    omega (arith, once_each graph done waiting order h q, sum_by-take-le (λ u. one (eqb u q)) order n)

-- each namer of the next node waits for as many as name it, at least
pub enough_wait : (graph namers : List (List ℕ)) (done : ℕ) (waiting order : List ℕ) (named : List ℕ) → done < length order →
    IsNamedBy graph (length graph) namers → IsReleased graph done waiting order → links namers (get_or order done 0) ≡ named →
    (v : ℕ) → times v named ≤ get_or waiting v 0
enough_wait graph namers done waiting order named below by h e v =
    let u = get_or order done 0 in
    let here : times v (links namers u) ≡ times v named = ap (times v) e in
    elim (cases_lt v (length graph)) [
      | inl in' ↦
          omega (
            arith,
            here,
            h.counted v in',
            by.named u v (h.nodes done below) in',
            times_in-push (take done order) u (links graph v),
            ap (λ (ps : List ℕ). times_in ps (links graph v)) (take_more order done 0 below),
            times_in-le (take (done + 1) order) (links graph v) (once_in_front graph done waiting order h (done + 1)),
          )
      | inr past ↦ omega (arith, here, by.none u v (h.nodes done below) past)
    ]

-- the front of the order stays
same_front : (order order' : List ℕ) → take (length order) order' ≡ order → (k : ℕ) → k < length order → get_or order' k 0 ≡ get_or order k 0
same_front order order' e k below = sym (get_or-take (length order) order' k 0 below) ∙ ap (λ (o : List ℕ). get_or o k 0) e

module _ (graph namers : List (List ℕ)) (done : ℕ) (waiting order named waiting' order' : List ℕ)
    (below : done < length order) (by : IsNamedBy graph (length graph) namers) (is : links namers (get_or order done 0) ≡ named)
    (h : IsReleased graph done waiting order) (s : Releases named waiting order waiting' order') where
  u : ℕ
  u = get_or order done 0

  front : take (done + 1) order' ≡ take done order ++ get_or order done 0 ∷ []
  front =
      sym (take-take (done + 1) (length order) order' (omega arith)) ∙ ap (take (done + 1)) s.grown ∙ take_more order done 0 below

  counted : (v : ℕ) → v < length graph → get_or waiting' v 0 + times_in (take (done + 1) order') (links graph v) ≡ length (links graph v)
  counted v in' =
      omega (
        arith,
        h.counted v in',
        s.counted v,
        by.named (get_or order done 0) v (h.nodes done below) in',
        ap (times v) is,
        ap (λ (ps : List ℕ). times_in ps (links graph v)) front,
        times_in-push (take done order) (get_or order done 0) (links graph v),
      )

  next_is : (v : ℕ) → 0 < get_or waiting v 0 → times v order' ≡ times v order + one (eqb (get_or waiting' v 0) 0)
  next_is v more = rw (lt-ltb 0 (get_or waiting v 0) more) at (s.next v)

  next_none : (v : ℕ) → get_or waiting v 0 ≡ 0 → times v order' ≡ times v order
  next_none v e =
      let r : times v order' ≡ times v order + 0 = rw (le-ltb 0 (get_or waiting v 0) (omega arith)) at (s.next v) in
      omega arith

  once : (v : ℕ) → v < length graph → times v order' ≡ one (eqb (get_or waiting' v 0) 0)
  once v in' =
      elim (cases_lt 0 (get_or waiting v 0)) [
        | inl more ↦
            (let r : times v order ≡ 0 = rw (ne_eqb (get_or waiting v 0) 0 (λ e. omega arith)) at (h.once v in') in
            omega (arith, next_is v more))
        | inr none ↦
            (let e : get_or waiting v 0 ≡ 0 = omega arith in
            let r : times v order ≡ 1 = rw (eq-eqb (get_or waiting v 0) 0 e) at (h.once v in') in
            rw (eq-eqb (get_or waiting' v 0) 0 (omega (arith, s.counted v))) (next_none v e ∙ r))
      ]

  -- a node of the new part
  nodes : (k : ℕ) → k < length order' → get_or order' k 0 < length graph
  nodes k in' =
      elim (cases_lt k (length order)) [
        | inl old ↦ omega (arith, same_front order order' s.grown k old, h.nodes k old)
        | inr new ↦
            elim (cases_lt (get_or order' k 0) (length graph)) [
              | inl good ↦ good
              | inr past ↦
                  (let v = get_or order' k 0 in
                  absurd (omega (
                    arith,
                    times_at order' k in',
                    next_none v (get_or_past waiting v 0 (omega (arith, h.sized))),
                    none_past graph order h.nodes v past,
                  )))
            ]
      ]

  new_waits_not : (k : ℕ) → k < length order' → length order ≤ k → get_or waiting' (get_or order' k 0) 0 ≡ 0
  new_waits_not k in' new =
      let v = get_or order' k 0 in
      let grew : times v order < times v order' =
      omega (arith, times_before v order' (length order) k new in' refl, ap (times v) s.grown) in
      elim (cases_eq (get_or waiting' v 0) 0) [
        | inl e ↦ e
        | inr n ↦
            (let none : one (eqb (get_or waiting' v 0) 0) ≡ 0 = ap one (ne_eqb (get_or waiting' v 0) 0 n) in
            absurd (elim (cases_lt 0 (get_or waiting v 0)) [
              | inl more ↦ omega (arith, next_is v more)
              | inr less ↦ omega (arith, next_none v (omega arith))
            ]))
      ]

  once_now : (q : ℕ) → times q (take (done + 1) order') ≤ 1
  once_now q =
      let r : times q (take (done + 1) order) ≤ 1 = once_in_front graph done waiting order h (done + 1) q in
      omega (arith, ap (times q) (front ∙ sym (take_more order done 0 below)))

  named_first : (k : ℕ) → k < length order' → All (IsAmongFirst order' k) (links graph (get_or order' k 0))
  named_first k in' i d b =
      elim (cases_lt k (length order)) [
        | inl old ↦
            (let v = get_or order k 0 in
            let same = same_front order order' s.grown k old in
            let b' : i < length (links graph v) = subst (λ (w : ℕ). i < length (links graph w)) same b in
            let r = h.named_first k old i d b' in
            (r.0, r.1, same_front order order' s.grown r.0 (omega (arith, r.1)) ∙ r.2 ∙ ap (λ (w : ℕ). get_or (links graph w) i d) (sym same)))
        | inr new ↦
            (let v = get_or order' k 0 in
            let t = get_or (links graph v) i 0 in
            let all = counted v (nodes k in') in
            let some = seen_all (take (done + 1) order') (links graph v) once_now (omega (arith, new_waits_not k in' new)) i b in
            let p = index_of t (take (done + 1) order') some in
            let short : length (take (done + 1) order') ≡ done + 1 = length-take-le (done + 1) order' (omega (arith, s.longer)) in
            (p.0, omega (arith, p.1), sym (get_or-take (done + 1) order' p.0 0 (omega (arith, p.1))) ∙ p.2 ∙ get_or_default (links graph v) i 0 d b))
      ]

  -- one more node is settled
  pub settled_more : IsReleased graph (done + 1) waiting' order'
  settled_more =
      record { sized = s.sized ∙ h.sized; counted = counted; once = once; nodes = nodes; named_first = named_first }

-- before any node is settled
pub settled_none : (graph : List (List ℕ)) (waiting order : List ℕ) → waiting ≡ map (λ (named : List ℕ). length named) graph →
    ((k : ℕ) → k < length order → get_or order k 0 < length waiting) →
    ((v : ℕ) → v < length waiting → times v order ≡ one (eqb (get_or waiting v 0) 0)) →
    ((k : ℕ) → k < length order → get_or waiting (get_or order k 0) 0 ≡ 0) → IsReleased graph 0 waiting order
settled_none graph waiting order e nodes once none_wait =
    let sized : length waiting ≡ length graph = ap length e ∙ length-map graph (λ (named : List ℕ). length named) in
    let count : (v : ℕ) → v < length graph → get_or waiting v 0 ≡ length (links graph v) =
    (λ v b. ap (λ (w : List ℕ). get_or w v 0) e ∙ get_or-map (λ (named : List ℕ). length named) graph v [] 0 b) in
    record {
      sized = sized;
      counted = λ v b. omega (arith, count v b, unseen (links graph v));
      once = λ v b. once v (omega arith);
      nodes = λ k b. omega (arith, nodes k b);
      named_first = λ k b i d below.
          absurd (omega (arith, none_wait k b, count (get_or order k 0) (omega (arith, nodes k b))));
    }
  where
    unseen : (xs : List ℕ) → times_in [] xs ≡ 0
    unseen [] = refl
    unseen (x ∷ xs) = omega (arith, times_in-cons [] x xs, unseen xs)

-- the order has at most all nodes
pub length-le : (graph : List (List ℕ)) (done : ℕ) (waiting order : List ℕ) → IsReleased graph done waiting order → length order ≤ length graph
length-le graph done waiting order h =
    length-le_from_distinct_below order (length graph) (IsDistinct-from_times order (once_each graph done waiting order h))
    (λ q e. elim (cases_lt q (length graph)) [
      | inl below ↦ below
      | inr past ↦ absurd (cc (no_equal q order (none_past graph order h.nodes q past)))
    ])

module _ (graph : List (List ℕ)) (done : ℕ) (waiting order : List ℕ) (closed : IsClosed graph) (all : length order ≤ done)
    (h : IsReleased graph done waiting order) where
  shallow : (m k : ℕ) → k < m → k < length order → has_walk graph (suc k) (get_or order k 0) ≡ false
  unfolding has_walk
  shallow zero k a b = absurd (omega arith)
  shallow (suc m) k a b =
      any_none (has_walk graph k) (links graph (get_or order k 0)) 0 (λ i below.
      let t = get_or (links graph (get_or order k 0)) i 0 in
      let p = h.named_first k b i 0 below in
      let j = p.0 in
      let r : has_walk graph (suc j) t ≡ false = subst (λ (v : ℕ). has_walk graph (suc j) v ≡ false) p.2 (shallow m j (omega (arith, p.1)) (omega (arith, p.1))) in
      let e : (k - suc j) + suc j ≡ k = omega (arith, p.1) in
      subst (λ (n : ℕ). has_walk graph n t ≡ false) e (no_longer graph (k - suc j) (suc j) t r))

  deep : (m v : ℕ) → v < length graph → (get_or waiting v 0 ≡ 0 → ⊥) → has_walk graph m v ≡ true
  unfolding has_walk
  deep zero v a b = refl
  deep (suc m) v a b =
      let s = seen_short order (links graph v) (omega (arith, h.counted v a, ap (λ (o : List ℕ). times_in o (links graph v)) (take_all done order all))) in
      let t = get_or (links graph v) s.0 0 in
      let in' : t < length graph = closed v a s.0 0 s.1 in
      list_any_at (has_walk graph m) (links graph v) s.0 0 s.1
      (deep m t in' (λ e. let r : times t order ≡ 1 = rw (eq-eqb (get_or waiting t 0) 0 e) at (h.once t in') in omega (arith, s.2)))

  apart : (j k : ℕ) → j < k → k < length order → get_or order j 0 ≡ get_or order k 0 → ⊥
  apart j k less in' e =
      let q = get_or order k 0 in
      let short : length (take k order) ≡ k = length-take-le k order (omega arith) in
      let here : get_or (take k order) j 0 ≡ q = get_or-take k order j 0 less ∙ e in
      let some : 0 < times q (take k order) = subst (λ (v : ℕ). 0 < times v (take k order)) here (times_at (take k order) j (omega arith)) in
      omega (arith, some, times_before q order k k (omega arith) in' refl, once_each graph done waiting order h q)

  which : (v : ℕ) → v < length graph → list_any (λ u. u == v) order ≡ not (has_walk graph (length graph) v)
  which v in' =
      elim (cases_eq (get_or waiting v 0) 0) [
        | inl e ↦
            (let r : times v order ≡ 1 = rw (eq-eqb (get_or waiting v 0) 0 e) at (h.once v in') in
            let p = index_of v order (omega arith) in
            let k = p.0 in
            let w : has_walk graph (suc k) v ≡ false = subst (λ (x : ℕ). has_walk graph (suc k) x ≡ false) p.2 (shallow (suc k) k (omega arith) p.1) in
            let i : (length graph - suc k) + suc k ≡ length graph = omega (arith, p.1, length-le graph done waiting order h) in
            let none : has_walk graph (length graph) v ≡ false =
            subst (λ (n : ℕ). has_walk graph n v ≡ false) i (no_longer graph (length graph - suc k) (suc k) v w) in
            any_from_times v order (omega arith) ∙ sym (ap not none))
        | inr n ↦
            (let r : times v order ≡ 0 = rw (ne_eqb (get_or waiting v 0) 0 n) at (h.once v in') in
            none_from_times v order r ∙ sym (ap not (deep (length graph) v in' n)))
      ]

  pub order_of_all : IsOrder graph order
  order_of_all = record { nodes = h.nodes; apart = apart; named_first = h.named_first; which = which }
