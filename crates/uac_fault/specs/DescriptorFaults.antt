-- The descriptor's faults among those for which a line isn't done.
use Rattle.uac_topology.specs.declared.fault.DescriptorFault.{DescriptorFault}
use Rattle.uac_topology.specs.declared.fault.DescriptorFault.TheVariants as broken
use Rattle.uac_fault.specs.declared.fault.BusFault.{BusFault}
use Rattle.uac_fault.specs.declared.fault.BusFault.TheVariants as faults

-- a fault of the descriptor, as the bus tells it
abbrev pub bus_fault_of : DescriptorFault → BusFault
bus_fault_of (broken.Grammar fault) = faults.Grammar fault
bus_fault_of (broken.Topology fault) = faults.Topology fault
bus_fault_of broken.NoMemory = faults.NoMemory
