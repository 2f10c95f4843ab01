-- One namer of a settled node waits for one node less.
use Rattle.std.proofs.Common.{◌≡◌, ℕ, ◌+◌, ◌-◌, ◌<◌, ◌≤◌, ◌&&◌, Bool, true, false, cond, eqb, ltb, List, [], ◌∷◌, ◌++◌, zero, length, get_or, take, set, inl, inr, refl, sym, ap, ◌∙◌, subst, arith}
use Rattle.std.proofs.lemmas.Bool.{cases_eq, cases_lt, eq-eqb, ne_eqb, lt-ltb}
use Rattle.std.proofs.lemmas.List.{length-set, get_or-set_same, get_or-set_other, take_more, get_or_past, length_push, take-append-le}
use Rattle.uac_topology_rules.specs.Count.{times}
use Rattle.uac_topology_rules.specs.NodeReleasing.{Releases}
use Rattle.uac_topology_rules.proofs.CountLemmas.{times-push, one, one_same, one_other, times_before}

-- what waits stands among the nodes
pub waits_below : (waiting : List ℕ) (v : ℕ) → 0 < get_or waiting v 0 → v < length waiting
waits_below waiting v h =
    elim (cases_lt v (length waiting)) [ inl below ↦ below | inr past ↦ absurd (omega (arith, get_or_past waiting v 0 past)) ]

-- the next namer waits for the settled node still
pub still_waits : (namers waiting0 order0 waiting order : List ℕ) (j : ℕ) → j < length namers →
    ((v : ℕ) → times v namers ≤ get_or waiting0 v 0) → Releases (take j namers) waiting0 order0 waiting order →
    0 < get_or waiting (get_or namers j 0) 0
still_waits namers waiting0 order0 waiting order j below enough h =
    omega (arith, enough (get_or namers j 0), h.counted (get_or namers j 0), times_before (get_or namers j 0) namers j j (omega arith) below refl)

-- what is added where none is left
abbrev where_none : ℕ → ℕ → ℕ
where_none left n = cond (eqb left 0) n 0

where_none-zero : (left : ℕ) → where_none left 0 ≡ 0
where_none-zero left = elim (eqb left 0) as (λ b. cond b zero zero ≡ zero) [ true ↦ refl | false ↦ refl ]

added : List ℕ → ℕ → ℕ → List ℕ
added order left v = cond (eqb left 0) (order ++ v ∷ []) order

times-added : (q v left : ℕ) (order : List ℕ) → times q (added order left v) ≡ times q order + where_none left (one (eqb v q))
unfolding added
times-added q v left order =
    elim (cases_eq left 0) [
      | inl e ↦ rw (eq-eqb left 0 e) (times-push q order v)
      | inr n ↦ rw (ne_eqb left 0 n) (omega arith)
    ]

longer_added : (v left : ℕ) (order : List ℕ) → length order ≤ length (added order left v)
unfolding added
longer_added v left order =
    elim (cases_eq left 0) [
      | inl e ↦ rw (eq-eqb left 0 e) (omega (arith, length_push order v))
      | inr n ↦ rw (ne_eqb left 0 n) (omega arith)
    ]

take-added : (v left n : ℕ) (order : List ℕ) → n ≤ length order → take n (added order left v) ≡ take n order
unfolding added
take-added v left n order h =
    elim (cases_eq left 0) [
      | inl e ↦ rw (eq-eqb left 0 e) (take-append-le n order (v ∷ []) h)
      | inr n' ↦ rw (ne_eqb left 0 n') refl
    ]

abbrev came_to_none : ℕ → ℕ → ℕ
came_to_none before after = one (ltb 0 before && eqb after 0)

came_down : (before after : ℕ) → 0 < before → came_to_none before after ≡ where_none after 1
came_down before after h = rw (lt-ltb 0 before h) refl

settles_added : (namers waiting0 order0 waiting order : List ℕ) (j v : ℕ) → j < length namers → v ≡ get_or namers j 0 →
    0 < get_or waiting v 0 → Releases (take j namers) waiting0 order0 waiting order →
    Releases (take (j + 1) namers) waiting0 order0 (set waiting v (get_or waiting v 0 - 1)) (added order (get_or waiting v 0 - 1) v)
settles_added namers waiting0 order0 waiting order j v below is waits h =
    let left = get_or waiting v 0 - 1 in
    let taken : (q : ℕ) → times q (take (j + 1) namers) ≡ times q (take j namers) + one (eqb v q) =
    (λ q. rw (take_more namers j 0 below, ← is) (times-push q (take j namers) v)) in
    let here = get_or-set_same waiting v left 0 (waits_below waiting v waits) in
    record {
      sized = length-set waiting v left ∙ h.sized;
      counted = λ q.
          elim (cases_eq q v) [
            | inl e ↦ rw (e, here) (omega (arith, h.counted v, taken v, one_same v v refl))
            | inr n ↦ rw (get_or-set_other waiting v q left 0 n) (omega (arith, h.counted q, taken q, one_other v q (λ e. n (sym e))))
          ];
      grown = take-added v left (length order0) order h.longer ∙ h.grown;
      longer = omega (arith, h.longer, longer_added v left order);
      next = λ q.
          elim (cases_eq q v) [
            | inl e ↦
                (let kept : where_none (get_or waiting v 0) 1 ≡ 0 = rw (ne_eqb (get_or waiting v 0) 0 (λ e'. omega arith)) refl in
                let was : times v order ≡ times v order0 + came_to_none (get_or waiting0 v 0) (get_or waiting v 0) = h.next v in
                let full : where_none left (one (eqb v v)) ≡ where_none left 1 = ap (where_none left) (one_same v v refl) in
                let more : 0 < get_or waiting0 v 0 = omega (arith, h.counted v) in
                rw (e, here)
                (omega (
                  arith,
                  was,
                  came_down (get_or waiting0 v 0) (get_or waiting v 0) more,
                  came_down (get_or waiting0 v 0) left more,
                  kept,
                  times-added v v left order,
                  full,
                )))
            | inr n ↦
                rw (get_or-set_other waiting v q left 0 n)
                (omega (arith, h.next q, times-added q v left order, none left q n))
          ];
    }
  where
    none : (left q : ℕ) → (q ≡ v → ⊥) → where_none left (one (eqb v q)) ≡ 0
    none left q n = ap (where_none left) (one_other v q (λ e. n (sym e))) ∙ where_none-zero left

pub settles_next : (namers waiting0 order0 waiting order : List ℕ) (j v : ℕ) → j < length namers → v ≡ get_or namers j 0 →
    0 < get_or waiting v 0 → get_or waiting v 0 - 1 ≡ 0 → Releases (take j namers) waiting0 order0 waiting order →
    Releases (take (j + 1) namers) waiting0 order0 (set waiting v (get_or waiting v 0 - 1)) (order ++ v ∷ [])
unfolding added
settles_next namers waiting0 order0 waiting order j v below is waits e h =
    let r = settles_added namers waiting0 order0 waiting order j v below is waits h in
    subst (λ (b : Bool). Releases (take (j + 1) namers) waiting0 order0 (set waiting v (get_or waiting v 0 - 1)) (cond b (order ++ v ∷ []) order))
    (eq-eqb (get_or waiting v 0 - 1) 0 e) r

pub settles_later : (namers waiting0 order0 waiting order : List ℕ) (j v : ℕ) → j < length namers → v ≡ get_or namers j 0 →
    0 < get_or waiting v 0 → (get_or waiting v 0 - 1 ≡ 0 → ⊥) → Releases (take j namers) waiting0 order0 waiting order →
    Releases (take (j + 1) namers) waiting0 order0 (set waiting v (get_or waiting v 0 - 1)) order
unfolding added
settles_later namers waiting0 order0 waiting order j v below is waits n h =
    let r = settles_added namers waiting0 order0 waiting order j v below is waits h in
    subst (λ (b : Bool). Releases (take (j + 1) namers) waiting0 order0 (set waiting v (get_or waiting v 0 - 1)) (cond b (order ++ v ∷ []) order))
    (ne_eqb (get_or waiting v 0 - 1) 0 n) r
