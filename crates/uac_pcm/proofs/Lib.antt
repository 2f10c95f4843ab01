pub mod TonesWrapLemmas
pub mod SubslotsRoundingLemmas
pub mod SubslotsLemmas
pub mod FramesLemmas
pub mod TonesFrameLemmas
pub mod PacketsLemmas
pub mod ZerosLemmas
mod Worked
