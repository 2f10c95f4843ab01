pub mod HostCallsLemmas
pub mod HostCallsStreamLemmas
pub mod HostKeptLemmas
pub mod HostKeptCallLemmas
pub mod HostBytesLemmas
mod Worked
