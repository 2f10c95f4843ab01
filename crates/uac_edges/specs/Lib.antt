-- The outside: what is asked of a source and of a sink, how numbers are written, and what the ones in memory hold.
-- What the program's theorem says: to be read and believed.
pub mod Faults
pub mod Writing
pub mod Numerals
pub mod TextLines
-- What the contracts below them cite: steps of the code, no part of what is promised.
pub mod Memory
pub mod StdEdges
