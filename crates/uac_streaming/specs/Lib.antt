-- Streams between a host and a device: their world, its events and what is said of them; what is kept of it; and the room in its rings.
-- What the program's theorem says: to be read and believed.
pub mod Telling
pub mod StreamingWorld
-- What the contracts below them cite: steps of the code, no part of what is promised.
pub mod FoundRings
pub mod Room
pub mod StreamingKept
pub mod StreamingWaits
