-- The bus as a machine that does a script's lines.
-- What the program's theorem says: to be read and believed.
pub mod Surroundings
pub mod BusMachine
pub mod BusRun
-- What the laws say besides.
pub mod BusLaws
-- What the contracts below them cite: steps of the code, no part of what is promised.
pub mod BusMachineLaws
