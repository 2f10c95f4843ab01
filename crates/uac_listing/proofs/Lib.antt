pub mod BlockLinesLemmas
pub mod AnsweredLemmas
pub mod OutcomeLemmas
pub mod SourceParsingLemmas
