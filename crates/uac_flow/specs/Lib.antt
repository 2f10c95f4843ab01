-- A stream that a device runs: its part of the world, what each event does to it, and how it is kept.
-- What the program's theorem says: to be read and believed.
pub mod FlowStreams
-- What the laws say besides.
pub mod Flows
pub mod FlowTicks
-- What the contracts below them cite: steps of the code, no part of what is promised.
pub mod FlowWaits
