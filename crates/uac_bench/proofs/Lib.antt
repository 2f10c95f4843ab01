pub mod FramesLemmas
pub mod RepeatedLemmas
