-- The lines of a script, their words, and what words spell.
-- What the program's theorem says: to be read and believed.
pub mod Words
pub mod Ranges
pub mod ScriptLines
-- What the laws say besides.
pub mod WordParsing
pub mod ScriptNumerals
-- What the contracts below them cite: steps of the code, no part of what is promised.
pub mod Taking
pub mod Looking
