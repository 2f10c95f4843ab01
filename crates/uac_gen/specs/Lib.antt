-- The generator: the descriptor of a generated script, its lines, those that are left, and its bytes.
-- What the program's theorem says: to be read and believed.
pub mod GeneratedDescriptor
pub mod Generator
pub mod GeneratedScript
-- What the contracts below them cite: steps of the code, no part of what is promised.
pub mod Left
