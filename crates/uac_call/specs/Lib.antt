-- One call of the program, by what its words ask for.
-- What the program's theorem says: to be read and believed.
pub mod Benches
pub mod Call
pub mod Completeness
pub mod FrontPanel
-- What the laws say besides.
pub mod GeneratedCall
-- What the contracts below them cite: steps of the code, no part of what is promised.
pub mod Performing
