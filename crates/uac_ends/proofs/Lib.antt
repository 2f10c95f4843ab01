pub mod ClosingLemmas
pub mod HandingOnLemmas
