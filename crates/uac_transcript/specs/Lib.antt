-- The lines that a run prints.
-- What the program's theorem says: to be read and believed.
pub mod Transcript
pub mod Printing
pub mod Spellings
