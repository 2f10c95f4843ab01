-- The settings that interfaces are in, and the streams that settings run.
-- What the program's theorem says: to be read and believed.
pub mod AltSettings
pub mod AltStreams
-- What the contracts below them cite: steps of the code, no part of what is promised.
pub mod Formed
