pub mod BusStepsLemmas
pub mod RowsLemmas
pub mod HostCallsFrameLemmas
pub mod BusWorldElementLemmas
pub mod AfterLemmas
