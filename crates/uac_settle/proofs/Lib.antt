pub mod SettlingBoundLemmas
pub mod SettlingGapLemmas
pub mod SettlingStretchLemmas
pub mod SettlingTurnLemmas
mod Worked
