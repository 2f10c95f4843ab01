-- Whom the rules on cycles name.
use Rattle.std.proofs.Common.{◌≡◌, ◌⊎◌, ℕ, ◌<◌, Bool, true, false, List, Option, Some, None, zero, suc, length, refl, sym, ap, ◌∙◌, arith, inl, inr, subst}
use Rattle.std.specs.Option.{option_or}
use Rattle.std.proofs.lemmas.Bool.{cases_Bool, cases_eq, both_ways}
use Rattle.std.proofs.lemmas.List.{length-map}
use Rattle.std.proofs.lemmas.Option.{none-some, same_Some}
use Rattle.uac_topology_rules.specs.Walk.{has_walk}
use Rattle.uac_topology_rules.specs.Order.{IsClosed}
use Rattle.uac_topology_rules.specs.Cycles.{ComesRound, HasCycle}
use Rattle.uac_topology_rules.proofs.CyclesLemmas as walks
use Rattle.uac_entities.specs.declared.entity.Entity.{Entity}
use Rattle.uac_topology_rules.specs.declared.fault.TopologyFault.{TopologyFault}
use Rattle.uac_topology_rules.specs.Table.{at}
use Rattle.uac_topology_rules.specs.Links.{signal_links, clock_links}
use Rattle.uac_topology_rules.specs.Rules.{breaks_u6, breaks_u7}
use Rattle.uac_topology_rules.specs.RuleFaults.{of_entity, broken_names, broken_walks}
use Rattle.uac_topology_rules.specs.LinkCycles.{IsFirstRound, HasNoCycle, IsSignalFault, IsClockFault, WalkRulesNameCycles}
use Rattle.uac_topology_rules.proofs.RuleFaultsLemmas.{fault_by, entity_breaks, no_entity_breaks, breaks_none}
use Rattle.uac_topology_rules.proofs.LinksLemmas.{or_none, option_or-none, signal_closed, clock_closed}

-- the first index below n that passes a test
pub record FirstBelow (test : ℕ → Bool) (n : ℕ) : Type 0 where
  pub index : ℕ
  pub inside : index < n
  pub here : test index ≡ true
  pub none : (j : ℕ) → j < index → test j ≡ false

first_or_none : (test : ℕ → Bool) (n : ℕ) → FirstBelow test n ⊎ ((j : ℕ) → j < n → test j ≡ false)
first_or_none test zero = inr (λ j below. absurd (omega arith))
first_or_none test (suc n) =
    elim (first_or_none test n) [
      | inl f ↦ inl (record { index = f.index; inside = omega (arith, f.inside); here = f.here; none = f.none })
      | inr none ↦
          elim (cases_Bool (test n)) [
            | inl here ↦ inl (record { index = n; inside = omega arith; here = here; none = none })
            | inr not ↦
                inr (λ j below.
                elim (cases_eq j n) [
                  | inl e ↦ subst (λ (i : ℕ). test i ≡ false) (sym e) not
                  | inr other ↦ none j (omega arith)
                ])
          ]
    ]

-- a fault of an entity is that of the first one
fault_of_first : (rule : ℕ) (es : List Entity) (breaks : List Entity → ℕ → Bool) (fault : TopologyFault) → of_entity rule es breaks ≡ Some fault →
    (f : FirstBelow (breaks es) (length es)) × (fault ≡ fault_by rule (at es f.index).id false)
fault_of_first rule es breaks fault e =
    elim (first_or_none (breaks es) (length es)) [
      | inl f ↦ (f, same_Some fault (fault_by rule (at es f.index).id false) (sym e ∙ entity_breaks rule es breaks f.index f.inside f.none f.here))
      | inr none ↦ absurd (none-some fault (sym (no_entity_breaks rule es breaks none) ∙ e))
    ]

-- one of the two rules, by its graph
module _ (rule : ℕ) (es : List Entity) (graph : List (List ℕ)) (breaks : List Entity → ℕ → Bool) (closed : IsClosed graph) (sized : length graph ≡ length es)
    (same : (k : ℕ) → breaks es k ≡ has_walk graph (length es) k) where
  breaks_where_round : (k : ℕ) → ComesRound graph k → breaks es k ≡ true
  breaks_where_round k round = same k ∙ walks.goes_on graph (length es) k round

  round_where_breaks : (k : ℕ) → k < length es → breaks es k ≡ true → ComesRound graph k
  round_where_breaks k below e =
      walks.comes_round graph k closed (omega (arith, sized)) (ap (λ (n : ℕ). has_walk graph n k) sized ∙ sym (same k) ∙ e)

  holds_where_none : (k : ℕ) → k < length es → (ComesRound graph k → ⊥) → breaks es k ≡ false
  holds_where_none k below none =
      elim (cases_Bool (breaks es k)) [ inl e ↦ absurd (none (round_where_breaks k below e)) | inr e ↦ e ]

  none_where_holds : (k : ℕ) → breaks es k ≡ false → ComesRound graph k → ⊥
  none_where_holds k e round = both_ways (breaks es k) e (breaks_where_round k round)

  pub first_round : (fault : TopologyFault) → of_entity rule es breaks ≡ Some fault → IsFirstRound es graph fault.id
  first_round fault e =
      let r = fault_of_first rule es breaks fault e in
      let f = r.0 in
      record {
        index = f.index;
        inside = f.inside;
        named = ap (λ (t : TopologyFault). t.id) r.1;
        round = round_where_breaks f.index f.inside f.here;
        first = λ j below. none_where_holds j (f.none j below);
      }

  pub named_first : (fault : TopologyFault) → fault.rule ≡ rule → fault.interface ≡ false → IsFirstRound es graph fault.id → of_entity rule es breaks ≡ Some fault
  named_first fault r i h =
      entity_breaks rule es breaks h.index h.inside (λ j below. holds_where_none j (omega (arith, h.inside)) (h.first j below)) (breaks_where_round h.index h.round)
      ∙ ap (λ (n : ℕ). Some (fault_by n (at es h.index).id false)) (sym r)
      ∙ ap (λ (n : ℕ). Some (fault_by fault.rule n false)) (sym h.named)
      ∙ ap (λ (b : Bool). Some (fault_by fault.rule fault.id b)) (sym i)

  pub no_cycle : of_entity rule es breaks ≡ None → HasCycle graph → ⊥
  no_cycle e cycle =
      let inside : cycle.node < length es = omega (arith, sized, walks.cycle_within graph cycle.within cycle.node cycle.node cycle.again) in
      none_where_holds cycle.node (breaks_none rule es breaks e cycle.node inside) (walks.round_of cycle)

  pub no_fault : (HasCycle graph → ⊥) → of_entity rule es breaks ≡ None
  no_fault none =
      no_entity_breaks rule es breaks (λ k below. holds_where_none k below (λ round. none (walks.cycle_of k round)))

signals_same : (es : List Entity) (k : ℕ) → breaks_u6 es k ≡ has_walk (signal_links es) (length es) k
unfolding breaks_u6
signals_same es k = refl

clocks_same : (es : List Entity) (k : ℕ) → breaks_u7 es k ≡ has_walk (clock_links es) (length es) k
unfolding breaks_u7
clocks_same es k = refl

fault_parts : (rule : ℕ) (es : List Entity) (breaks : List Entity → ℕ → Bool) (fault : TopologyFault) → of_entity rule es breaks ≡ Some fault →
    (fault.rule ≡ rule) × (fault.interface ≡ false)
fault_parts rule es breaks fault e =
    let r = fault_of_first rule es breaks fault e in
    (ap (λ (t : TopologyFault). t.rule) r.1, ap (λ (t : TopologyFault). t.interface) r.1)

or_cases_Some : {X : Type 0} (a b : Option X) (x : X) → option_or a b ≡ Some x → (a ≡ Some x) ⊎ ((a ≡ None) × (b ≡ Some x))
or_cases_Some None b x e = inr (refl, e)
or_cases_Some (Some y) b x e = inl e

walks_or : (es : List Entity) → broken_walks es ≡ option_or (of_entity 6 es breaks_u6) (of_entity 7 es breaks_u7)
unfolding broken_walks
walks_or es = ap (option_or (of_entity 6 es breaks_u6)) (option_or-none _)

module _ (es : List Entity) (names : broken_names es ≡ None) where
  signals_sized : length (signal_links es) ≡ length es
  signals_sized = length-map es _

  clocks_sized : length (clock_links es) ≡ length es
  clocks_sized = length-map es _

  u6 : Option TopologyFault
  u6 = of_entity 6 es breaks_u6

  u7 : Option TopologyFault
  u7 = of_entity 7 es breaks_u7

  no_signal_cycle : u6 ≡ None → HasCycle (signal_links es) → ⊥
  unfolding u6
  no_signal_cycle = no_cycle 6 es (signal_links es) breaks_u6 (signal_closed es names) signals_sized (signals_same es)

  no_signal_fault : (HasCycle (signal_links es) → ⊥) → u6 ≡ None
  unfolding u6
  no_signal_fault = no_fault 6 es (signal_links es) breaks_u6 (signal_closed es names) signals_sized (signals_same es)

  fault_is : (fault : TopologyFault) → broken_walks es ≡ Some fault → IsSignalFault es fault ⊎ IsClockFault es fault
  unfolding u6
  fault_is fault e =
      elim (or_cases_Some (of_entity 6 es breaks_u6) (of_entity 7 es breaks_u7) fault (sym (walks_or es) ∙ e)) [
        | inl f ↦
            (let parts = fault_parts 6 es breaks_u6 fault f in
            inl (record {
              rule = parts.0;
              entity = parts.1;
              first = first_round 6 es (signal_links es) breaks_u6 (signal_closed es names) signals_sized (signals_same es) fault f;
            }))
        | inr f ↦
            (let parts = fault_parts 7 es breaks_u7 fault f.1 in
            inr (record {
              rule = parts.0;
              entity = parts.1;
              silent = no_signal_cycle f.0;
              first = first_round 7 es (clock_links es) breaks_u7 (clock_closed es names) clocks_sized (clocks_same es) fault f.1;
            }))
      ]

  signal_fault : (fault : TopologyFault) → IsSignalFault es fault → broken_walks es ≡ Some fault
  signal_fault fault h =
      let e : of_entity 6 es breaks_u6 ≡ Some fault =
      named_first 6 es (signal_links es) breaks_u6 (signal_closed es names) signals_sized (signals_same es) fault h.rule h.entity h.first in
      walks_or es ∙ ap (λ (o : Option TopologyFault). option_or o (of_entity 7 es breaks_u7)) e

  clock_fault : (fault : TopologyFault) → IsClockFault es fault → broken_walks es ≡ Some fault
  unfolding u6
  clock_fault fault h =
      let e : of_entity 7 es breaks_u7 ≡ Some fault =
      named_first 7 es (clock_links es) breaks_u7 (clock_closed es names) clocks_sized (clocks_same es) fault h.rule h.entity h.first in
      walks_or es ∙ ap (λ (o : Option TopologyFault). option_or o (of_entity 7 es breaks_u7)) (no_signal_fault h.silent) ∙ e

  sound_from_none : broken_walks es ≡ None → HasNoCycle es
  unfolding u6
  sound_from_none e =
      let r = or_none _ _ (sym (walks_or es) ∙ e) in
      record {
        signals = no_signal_cycle r.0;
        clocks = no_cycle 7 es (clock_links es) breaks_u7 (clock_closed es names) clocks_sized (clocks_same es) r.1;
      }

  none_from_sound : HasNoCycle es → broken_walks es ≡ None
  unfolding u6
  none_from_sound h =
      walks_or es ∙ ap (λ (o : Option TopologyFault). option_or o (of_entity 7 es breaks_u7)) (no_signal_fault h.signals)
      ∙ no_fault 7 es (clock_links es) breaks_u7 (clock_closed es names) clocks_sized (clocks_same es) h.clocks

pub cycles_are_named : WalkRulesNameCycles
cycles_are_named es names =
    record {
      fault = λ fault.
          let back : IsSignalFault es fault ⊎ IsClockFault es fault → broken_walks es ≡ Some fault =
          λ h. elim h [ inl s ↦ signal_fault es names fault s | inr c ↦ clock_fault es names fault c ] in
          (fault_is es names fault, back);
      sound = (sound_from_none es names, none_from_sound es names);
    }
