pub mod WordsListLemmas
pub mod LineLemmas
pub mod LineParsingLemmas
pub mod LineUniqueLemmas
pub mod SayingLemmas
pub mod LineRangeLemmas
pub mod Worked
pub mod LossesLemmas
