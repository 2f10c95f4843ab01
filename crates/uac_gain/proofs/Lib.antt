pub mod GainTableLemmas
pub mod GainScalingLemmas
pub mod GainRiseLemmas
pub mod Worked
