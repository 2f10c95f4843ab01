-- The meaning of a signal graph: the sample on each of its wires.
-- What the program's theorem says: to be read and believed.
pub mod GraphControls
pub mod Meaning
pub mod Needs
pub mod Wiring
-- What the laws say besides.
pub mod Fitness
pub mod TickRows
-- What the contracts below them cite: steps of the code, no part of what is promised.
pub mod FrameRows
pub mod Jobs
pub mod Tasks
pub mod Orders
