-- What is said of a descriptor: the outcomes of its bytes, and the lines of the listings.
-- What the program's theorem says: to be read and believed.
pub mod BlockLines
pub mod EntityLines
pub mod SettingLines
pub mod ElementLines
pub mod Outcome
pub mod SourceParsing
pub mod Answered
pub mod SettleLines
