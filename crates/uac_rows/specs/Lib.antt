-- The world under a script and what each line makes of it, and the lines of a running device.
-- What the program's theorem says: to be read and believed.
pub mod BusWorld
pub mod BusSteps
pub mod After
-- What the contracts below them cite: steps of the code, no part of what is promised.
pub mod Rows
