pub mod FlowsFrameLemmas
pub mod FlowsCountLemmas
pub mod FlowStreamsLemmas
pub mod FlowTicksLemmas
pub mod FlowTicksRowLemmas
mod Worked
pub mod FlowWaitsLemmas
