-- Where links come round.
use Rattle.std.proofs.Common.{◌≡◌, ◌↔◌, ◌==◌, not, ◌⊎◌, ℕ, ◌+◌, ◌<◌, ◌≤◌, Bool, true, false, eqb, List, [], ◌∷◌, zero, suc, length, get_or, refl, sym, ap, ◌∙◌, arith, inl, inr, subst}
use Rattle.std.proofs.Math.Bool.{not-not}
use Rattle.std.specs.List.{list_any, IsDistinct, AllByRecursion}
use Rattle.std.proofs.lemmas.Bool.{cases_Bool, cases_lt, both_ways, or_cases, eqb-true, or_parts, eq-eqb}
use Rattle.std.proofs.lemmas.List.{get_or_past}
use Rattle.std.proofs.lemmas.List.Folds.{list_any_at, Any-from_list_any}
use Rattle.std.proofs.lemmas.Grind.{get_or_default_zero}
use Rattle.std.proofs.lemmas.Map.Steps.{length-le_from_distinct_below}
use Rattle.uac_topology_rules.specs.Walk.{links, has_walk, leads}
use Rattle.uac_topology_rules.specs.Order.{IsClosed, IsOrder}
use Rattle.uac_topology_rules.specs.Cycles.{ComesRound, HasCycle, LongWalksComeRound}
use Rattle.uac_topology_rules.proofs.WalkLemmas.{no_longer, joined, for_ever}

-- a node names another
Names : List (List ℕ) → ℕ → ℕ → Type 0
Names graph v t = (k : ℕ) × (k < length (links graph v)) × (get_or (links graph v) k 0 ≡ t)

-- the nodes behind v, along a walk
Along : List (List ℕ) → ℕ → List ℕ → Type 0
Along graph v [] = Unit {0}
Along graph v (t ∷ ts) = Names graph v t × Along graph t ts

-- what passes for a named node passes for some
any_named : (graph : List (List ℕ)) (p : ℕ → Bool) (v t : ℕ) → Names graph v t → p t ≡ true → list_any p (links graph v) ≡ true
unfolding Names
any_named graph p v t named e =
    list_any_at p (links graph v) named.0 0 named.1 (subst (λ (u : ℕ). p u ≡ true) (sym named.2) e)

-- the nodes of a walk of n links
nodes_of : (graph : List (List ℕ)) (n v : ℕ) → has_walk graph n v ≡ true → (ts : List ℕ) × (length ts ≡ n) × Along graph v ts
unfolding has_walk Along Names
nodes_of graph zero v e = ([], refl, tt)
nodes_of graph (suc n) v e =
    let any = Any-from_list_any (has_walk graph n) (links graph v) e in
    let t = get_or (links graph v) any.0 0 in
    let value : t ≡ any.1 = sym (get_or_default_zero (links graph v) any.0 any.1 any.2) ∙ any.3 in
    let rest = nodes_of graph n t (ap (has_walk graph n) value ∙ any.4) in
    (t ∷ rest.0, ap suc rest.1, ((any.0, any.2, refl), rest.2))

-- each node of a walk is one of the graph
nodes_below : (graph : List (List ℕ)) → IsClosed graph → (v : ℕ) → v < length graph → (ts : List ℕ) → Along graph v ts →
    (q : ℕ) → list_any (eqb q) (v ∷ ts) ≡ true → q < length graph
unfolding Along Names
nodes_below graph closed v in' [] along q e =
    elim (or_cases (eqb q v) false e) [
      | inl same ↦ subst (λ (u : ℕ). u < length graph) (sym (eqb-true q v same)) in'
      | inr none ↦ absurd (cc)
    ]
nodes_below graph closed v in' (t ∷ ts) along q e =
    elim (or_cases (eqb q v) (list_any (eqb q) (t ∷ ts)) e) [
      | inl same ↦ subst (λ (u : ℕ). u < length graph) (sym (eqb-true q v same)) in'
      | inr later ↦
          (let named = along.0 in
          let below : t < length graph = subst (λ (u : ℕ). u < length graph) named.2 (closed v in' named.0 0 named.1) in
          nodes_below graph closed t below ts along.1 q later)
    ]

-- a walk leads to each of its nodes
leads_to : (graph : List (List ℕ)) (v q : ℕ) (ts : List ℕ) → Along graph v ts → list_any (eqb q) ts ≡ true → (n : ℕ) × (leads graph (suc n) v q ≡ true)
unfolding Along leads
leads_to graph v q [] along e = absurd (cc)
leads_to graph v q (t ∷ ts) along e =
    elim (or_cases (eqb q t) (list_any (eqb q) ts) e) [
      | inl same ↦ (0, any_named graph (λ u. leads graph 0 u q) v t along.0 (eq-eqb t q (sym (eqb-true q t same))))
      | inr later ↦ (let r = leads_to graph t q ts along.1 later in (suc r.0, any_named graph (λ u. leads graph (suc r.0) u q) v t along.0 r.1))
    ]

none_equal : (q : ℕ) (ts : List ℕ) → list_any (eqb q) ts ≡ false → AllByRecursion (λ t. eqb q t ≡ false) ts
none_equal q [] e = tt
none_equal q (t ∷ ts) e = let r = or_parts (eqb q t) (list_any (eqb q) ts) e in (r.0, none_equal q ts r.1)

-- the nodes of a walk all differ, or links come round
all_differ : (graph : List (List ℕ)) (v : ℕ) (ts : List ℕ) → Along graph v ts → IsDistinct eqb (v ∷ ts) ⊎ ComesRound graph v
unfolding Along IsDistinct leads
all_differ graph v [] along = inl (tt, tt)
all_differ graph v (t ∷ ts) along =
    elim (all_differ graph t ts along.1) [
      | inr round ↦
          inr (record {
            node = round.node;
            before = suc round.before;
            within = round.within;
            reached = any_named graph (λ u. leads graph round.before u round.node) v t along.0 round.reached;
            again = round.again;
          })
      | inl distinct ↦
          elim (cases_Bool (list_any (eqb v) (t ∷ ts))) [
            | inl stands ↦
                (let back = leads_to graph v v (t ∷ ts) along stands in
                inr (record { node = v; before = 0; within = back.0; reached = eq-eqb v v refl; again = back.1 }))
            | inr not ↦ inl (none_equal v (t ∷ ts) not, distinct)
          ]
    ]

-- a walk of as many links as there are nodes has a node twice
pub comes_round : (graph : List (List ℕ)) (v : ℕ) → IsClosed graph → v < length graph → has_walk graph (length graph) v ≡ true → ComesRound graph v
comes_round graph v closed in' e =
    let walk = nodes_of graph (length graph) v e in
    elim (all_differ graph v walk.0 walk.2) [
      | inr round ↦ round
      | inl distinct ↦
          absurd (omega (arith, walk.1, length-le_from_distinct_below (v ∷ walk.0) (length graph) distinct (nodes_below graph closed v in' walk.0 walk.2)))
    ]

-- where links come round, walks go on for ever
pub goes_on : (graph : List (List ℕ)) (n v : ℕ) → ComesRound graph v → has_walk graph n v ≡ true
goes_on graph n v round =
    elim (cases_Bool (has_walk graph n v)) [
      | inl on ↦ on
      | inr ends ↦
          absurd (both_ways (has_walk graph (round.before + n) v) (no_longer graph round.before n v ends)
          (joined graph round.before n v round.node round.reached (for_ever graph round.within round.node round.again n)))
    ]

pub long_walks_come_round : LongWalksComeRound
long_walks_come_round graph v closed in' = (comes_round graph v closed in', goes_on graph (length graph) v)

-- a node on a cycle is one of the graph
pub cycle_within : (graph : List (List ℕ)) (n v w : ℕ) → leads graph (suc n) v w ≡ true → v < length graph
unfolding leads
cycle_within graph n v w e =
    elim (cases_lt v (length graph)) [
      | inl below ↦ below
      | inr past ↦ absurd (let none : false ≡ true = ap (list_any (λ t. leads graph n t w)) (sym (get_or_past graph v [] past)) ∙ e in cc)
    ]

-- a node that has no place in the order
pub absent_walks : (graph : List (List ℕ)) (order : List ℕ) (v : ℕ) → IsOrder graph order → v < length graph →
    not (list_any (λ u. u == v) order) ≡ has_walk graph (length graph) v
absent_walks graph order v ordered in' = ap not (ordered.which v in') ∙ not-not (has_walk graph (length graph) v)

pub absent_round : (graph : List (List ℕ)) (order : List ℕ) (v : ℕ) (t : Bool) → IsClosed graph → IsOrder graph order → v < length graph →
    t ≡ list_any (λ u. u == v) order → not t ≡ true → ComesRound graph v
absent_round graph order v t closed ordered in' e none =
    comes_round graph v closed in' (sym (ap not e ∙ absent_walks graph order v ordered in') ∙ none)

pub round_absent : (graph : List (List ℕ)) (order : List ℕ) (v : ℕ) (t : Bool) → IsOrder graph order → v < length graph →
    t ≡ list_any (λ u. u == v) order → ComesRound graph v → not t ≡ true
round_absent graph order v t ordered in' e round =
    ap not e ∙ absent_walks graph order v ordered in' ∙ goes_on graph (length graph) v round

-- a node on a cycle comes round, and behind one that comes round there is a cycle
pub round_of : {graph : List (List ℕ)} (cycle : HasCycle graph) → ComesRound graph cycle.node
unfolding leads
round_of cycle = record { node = cycle.node; before = 0; within = cycle.within; reached = eq-eqb cycle.node cycle.node refl; again = cycle.again }

pub cycle_of : {graph : List (List ℕ)} (v : ℕ) → ComesRound graph v → HasCycle graph
cycle_of v round = record { node = round.node; within = round.within; again = round.again }
