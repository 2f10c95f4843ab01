-- What the calls here answer, each for its part.
use Rattle.std.specs.Prelude.{◌≡◌, ℕ, List, None, Some, Result, Ok, Err}
use Rattle.uac_grammar_rules.specs.Grammar.{first_fault}
use Rattle.uac_grammar.specs.declared.fault.ReadStop.{ReadStop}
use Rattle.uac_grammar.specs.declared.fault.ReadStop.TheVariants as reads
use Rattle.uac_topology.specs.Topology.{first_fault_of}
use Rattle.uac_topology.specs.declared.describing.SoundDescriptor.{SoundDescriptor}
use Rattle.uac_topology.specs.declared.fault.DescriptorFault.{DescriptorFault}
use Rattle.uac_topology.specs.declared.fault.DescriptorFault.TheVariants as faults
use Rattle.uac_topology.specs.Configuration.{configuration_of}
use Rattle.uac_topology.specs.Description.{blocks_of, function_of}

-- why a reader stopped, as a fault of what it took
abbrev pub fault_of : ReadStop → DescriptorFault
fault_of (reads.Fault fault) = faults.Grammar fault
fault_of reads.NoMemory = faults.NoMemory

-- what the descriptor's bytes come to
abbrev pub Describes : List ℕ → Result SoundDescriptor DescriptorFault → Type 0
Describes bytes (Ok described) =
    (first_fault bytes ≡ None) × (first_fault_of (blocks_of bytes) ≡ None) × (described.function ≡ function_of (blocks_of bytes))
    × (described.configuration ≡ configuration_of bytes)
Describes bytes (Err (faults.Grammar fault)) = first_fault bytes ≡ Some fault
Describes bytes (Err (faults.Topology fault)) = (first_fault bytes ≡ None) × (first_fault_of (blocks_of bytes) ≡ Some fault)
Describes bytes (Err faults.NoMemory) = Unit {0}
