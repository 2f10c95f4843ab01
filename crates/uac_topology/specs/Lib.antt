-- The sound audio functions, the first fault of the others, and what a descriptor's bytes come to.
-- What the program's theorem says: to be read and believed.
pub mod Function
pub mod Topology
pub mod Description
pub mod Configuration
-- What the laws say besides.
pub mod FunctionKept
-- What the contracts below them cite: steps of the code, no part of what is promised.
pub mod Judged
pub mod ConfigurationVerdict
