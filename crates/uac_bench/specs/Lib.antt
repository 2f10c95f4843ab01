-- One mono stream of a bench, and its clock.
-- What the program's theorem says: to be read and believed.
pub mod BenchStreams
pub mod BenchLines
-- What the contracts below them cite: steps of the code, no part of what is promised.
pub mod BenchKept
