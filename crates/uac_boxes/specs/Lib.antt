-- One call of the program with meters of its own.
-- What the program's theorem says: to be read and believed.
pub mod Boxes
