-- What a run of lines comes to, for any machine.
-- What the program's theorem says: to be read and believed.
pub mod Machine
pub mod Transcript
pub mod Done
pub mod Fronts
pub mod Run
-- What the contracts below them cite: steps of the code, no part of what is promised.
pub mod LineOutcomes
