-- One mono stream on a full-speed bus.
-- What the program's theorem says: to be read and believed.
pub mod FullSpeedNominal
pub mod FullSpeedWorld
pub mod FullSpeedLines
pub mod FullSpeedSteps
pub mod FullSpeedPromise
pub mod FullSpeedMachine
-- What the laws say besides.
pub mod FullSpeedBands
-- What the contracts below them cite: steps of the code, no part of what is promised.
pub mod FullSpeedKept
pub mod FullSpeedMachineLaws
