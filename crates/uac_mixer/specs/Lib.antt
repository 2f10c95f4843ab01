-- The host's view of a device: the elements that it shows, what transfers make of it, and the link over which they go.
-- What the program's theorem says: to be read and believed.
pub mod MixerElements
pub mod ViewWorld
pub mod ViewTransfers
pub mod Agreement
-- What the laws say besides.
pub mod ViewLinks
-- What the contracts below them cite: steps of the code, no part of what is promised.
pub mod Readable
