pub mod BusLemmas
pub mod BusLineLemmas
