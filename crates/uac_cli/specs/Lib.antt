-- The program: the arguments of its process.
-- What the contracts below them cite: steps of the code, no part of what is promised.
pub mod Program
