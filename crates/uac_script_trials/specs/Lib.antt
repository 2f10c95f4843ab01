-- A machine of the tests.
-- What the contracts below them cite: steps of the code, no part of what is promised.
pub mod Counting
