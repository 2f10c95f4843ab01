-- The ring of a stream.
-- What the program's theorem says: to be read and believed.
pub mod Rings
pub mod Meeting
