-- The function that the blocks describe, and whether it is sound.
use Rattle.std.specs.Prelude.{◌≡◌, ◌↔◌, ℕ, cond, List, Option, Some, None, slice_get, unwrap_or}
use Rattle.std.specs.List.{filter_map}
use Rattle.std.specs.Option.{option_and_then, option_map}
use Rattle.uac_descriptor.specs.Classes.{is_control_interface}
use Rattle.uac_descriptor.specs.WellFormed.{AreWellFormed}
use Rattle.uac_descriptor.specs.declared.block.Block as block
use Rattle.uac_descriptor.specs.Kinds.{as_configuration}
use Rattle.uac_descriptor.specs.BlockTurns.{interface_of}
use Rattle.uac_topology_rules.specs.Cycles.{HasCycle}
use Rattle.uac_entities.specs.Entities.{entities_of}
use Rattle.uac_entities.specs.EntitySettings.{declared_settings}
use Rattle.uac_entities.specs.EntityInterfaces.{streaming_interfaces_of}
use Rattle.uac_entities.specs.declared.stream.StreamInterface.{StreamInterface}
use Rattle.uac_topology_rules.specs.declared.fault.TopologyFault.{TopologyFault}
use Rattle.uac_topology_rules.specs.Links.{signal_links, clock_links}
use Rattle.uac_topology_rules.specs.LinkCycles.{HasNoCycle}
use Rattle.uac_topology_rules.specs.Clusters.{with_own_clusters}
use Rattle.uac_topology_rules.specs.Domains.{domains_of}
use Rattle.uac_topology_rules.specs.RuleFaults.{rule_fault, broken_names}
use Rattle.uac_topology.specs.Function.{FunctionFields}
use Rattle.uac_topology.specs.declared.soundness.CheckStop.{CheckStop}
use Rattle.uac_topology.specs.declared.soundness.CheckStop.TheVariants as stop

-- the number of a control interface (Audio Class 2.0, 4.7.1)
unfoldable pub control_number : block.Block → Option ℕ
control_number b = option_and_then (λ i. cond (is_control_interface i) (Some i.number) None) (interface_of b)

-- the bytes of a configuration (USB 2.0, 9.6.3)
unfoldable pub total_length : block.Block → Option ℕ
total_length b = option_map (λ c. c.total) (as_configuration b)

-- the first that some block gives, 0 where none gives one
abbrev pub first_given : (block.Block → Option ℕ) → List block.Block → ℕ
first_given gives blocks = unwrap_or (slice_get (filter_map gives blocks) 0) 0

-- the streaming interfaces of the blocks
abbrev pub streams_in : List block.Block → List StreamInterface
streams_in blocks = streaming_interfaces_of (entities_of blocks) (declared_settings blocks)

-- the least broken rule with its first offender in block order
unfoldable pub first_fault_of : List block.Block → Option TopologyFault
first_fault_of blocks = rule_fault (entities_of blocks) (declared_settings blocks) (streams_in blocks)

-- no rule is broken
abbrev pub IsSound : List block.Block → Type 0
IsSound blocks = first_fault_of blocks ≡ None

-- the function is that of the blocks
pub record IsFunctionOf (function : FunctionFields) (blocks : List block.Block) : Type 0 where
  pub entities : function.entities ≡ with_own_clusters (entities_of blocks)
  pub domains : function.domains ≡ domains_of (entities_of blocks)
  pub streams : function.streams ≡ streams_in blocks
  pub control_interface : function.control_interface ≡ first_given control_number blocks
  pub total : function.total ≡ first_given total_length blocks

-- the function is that of well-formed blocks that break no rule
abbrev pub IsSoundFunction : FunctionFields → Type 0
IsSoundFunction function = (blocks : List block.Block) × IsSound blocks × IsFunctionOf function blocks × AreWellFormed blocks

-- a stop tells the fault, where it isn't want of memory
abbrev pub IsStopAt : CheckStop → Option TopologyFault → Type 0
IsStopAt (stop.Fault fault) first = first ≡ Some fault
IsStopAt stop.NoMemory first = Unit {0}

-- soundness leaves no cycle
abbrev pub SoundHasNoCycle : Type 0
SoundHasNoCycle = (blocks : List block.Block) → IsSound blocks → HasNoCycle (entities_of blocks)

-- the least broken rule is this one
abbrev pub IsRefusedBy : ℕ → List block.Block → Type 0
IsRefusedBy rule blocks = (fault : TopologyFault) × (first_fault_of blocks ≡ Some fault) × (fault.rule ≡ rule)

-- where names are in order, U6 refuses exactly the blocks whose signal links have a cycle, and U7 exactly those whose
-- clock links alone have one
pub record RefusesCycles (blocks : List block.Block) : Type 0 where
  pub signals : IsRefusedBy 6 blocks ↔ ((broken_names (entities_of blocks) ≡ None) × HasCycle (signal_links (entities_of blocks)))
  pub clocks :
      IsRefusedBy 7 blocks
      ↔ ((broken_names (entities_of blocks) ≡ None) × (HasCycle (signal_links (entities_of blocks)) → ⊥)
      × HasCycle (clock_links (entities_of blocks)))

abbrev pub CyclesAreRefused : Type 0
CyclesAreRefused = (blocks : List block.Block) → RefusesCycles blocks
