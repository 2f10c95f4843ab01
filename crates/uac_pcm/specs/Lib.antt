-- Samples as subslots, frames and packets, and the tones that make them.
-- What the program's theorem says: to be read and believed.
pub mod Subslots
pub mod Frames
pub mod Packets
pub mod Tones
pub mod Counts
