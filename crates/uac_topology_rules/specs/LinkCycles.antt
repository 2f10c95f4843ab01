-- Whom the rules U6 and U7 name (profile): the first entity in block order from which links come round.
use Rattle.std.specs.Prelude.{◌≡◌, ◌↔◌, ◌⊎◌, ℕ, ◌<◌, false, List, Some, None, length}
use Rattle.uac_topology_rules.specs.Cycles.{ComesRound, HasCycle}
use Rattle.uac_entities.specs.declared.entity.Entity.{Entity}
use Rattle.uac_topology_rules.specs.declared.fault.TopologyFault.{TopologyFault}
use Rattle.uac_topology_rules.specs.Table.{at}
use Rattle.uac_topology_rules.specs.Links.{signal_links, clock_links}
use Rattle.uac_topology_rules.specs.RuleFaults.{broken_names, broken_walks}

-- the id of the first entity in block order from which links come round
pub record IsFirstRound (entities : List Entity) (graph : List (List ℕ)) (id : ℕ) : Type 0 where
  pub index : ℕ
  pub inside : index < length entities
  pub named : id ≡ (at entities index).id
  pub round : ComesRound graph index
  pub first : (earlier : ℕ) → earlier < index → ComesRound graph earlier → ⊥

-- neither signal links nor clock links lead from an entity back to it
pub record HasNoCycle (entities : List Entity) : Type 0 where
  pub signals : HasCycle (signal_links entities) → ⊥
  pub clocks : HasCycle (clock_links entities) → ⊥

-- U6: the first entity from which signal links come round
pub record IsSignalFault (entities : List Entity) (fault : TopologyFault) : Type 0 where
  pub rule : fault.rule ≡ 6
  pub entity : fault.interface ≡ false
  pub first : IsFirstRound entities (signal_links entities) fault.id

-- U7: the first entity from which clock links come round, where no signal links do
pub record IsClockFault (entities : List Entity) (fault : TopologyFault) : Type 0 where
  pub rule : fault.rule ≡ 7
  pub entity : fault.interface ≡ false
  pub silent : HasCycle (signal_links entities) → ⊥
  pub first : IsFirstRound entities (clock_links entities) fault.id

-- where U1 to U5 hold, the rules on walks find a fault exactly where it is one of these two, and none exactly where
-- there is no cycle
pub record CyclesAreNamed (entities : List Entity) : Type 0 where
  pub fault : (fault : TopologyFault) → (broken_walks entities ≡ Some fault) ↔ (IsSignalFault entities fault ⊎ IsClockFault entities fault)
  pub sound : (broken_walks entities ≡ None) ↔ HasNoCycle entities

abbrev pub WalkRulesNameCycles : Type 0
WalkRulesNameCycles = (entities : List Entity) → broken_names entities ≡ None → CyclesAreNamed entities
