pub mod BandsLemmas
pub mod CarryLemmas
pub mod FsPrintingLemmas
pub mod ReportsLemmas
pub mod RoomLemmas
pub mod RunLemmas
pub mod SumsLemmas
pub mod StepsLemmas
pub mod WorldLemmas
pub mod PromiseLemmas
pub mod MachineLemmas
mod Worked
mod WorkedBench
