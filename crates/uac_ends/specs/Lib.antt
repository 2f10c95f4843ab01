-- How a call of the program ends, and what it sees of its outside.
-- What the program's theorem says: to be read and believed.
pub mod Outside
pub mod Outcome
pub mod Closing
pub mod Exit
-- What the contracts below them cite: steps of the code, no part of what is promised.
pub mod HandingOn
