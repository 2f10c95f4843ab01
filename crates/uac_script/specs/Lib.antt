-- What each line of a script says.
-- What the program's theorem says: to be read and believed.
pub mod Phrase
pub mod Line
pub mod Losses
-- What the laws say besides.
pub mod LineParsing
pub mod Saying
-- What the contracts below them cite: steps of the code, no part of what is promised.
pub mod Lent
pub mod LineRules
