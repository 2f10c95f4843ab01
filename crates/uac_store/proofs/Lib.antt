pub mod StoreControlsLemmas
pub mod KeyedStartLemmas
pub mod KeyedLemmas
pub mod RatesWalkLemmas
pub mod StoreControlsIdLemmas
pub mod StoreControlsSoundLemmas
pub mod StoreControlsStartLemmas
pub mod RatesStepLemmas
pub mod ControlTableLemmas
mod Worked
