pub mod AskedLemmas
pub mod ByClapLemmas
pub mod CommandLinesLemmas
pub mod AskedDigitLemmas
pub mod PlainLemmas
pub mod PlainRowLemmas
pub mod ByClapRunLemmas
pub mod PlainWordLemmas
