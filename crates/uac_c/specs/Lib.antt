-- The program's commands for C: what their texts and statuses come to.
-- What the program's theorem says: to be read and believed.
pub mod Telling
-- What the contracts below them cite: steps of the code, no part of what is promised.
pub mod Putting
