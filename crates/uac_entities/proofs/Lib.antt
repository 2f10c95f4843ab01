pub mod ListFilterLemmas
pub mod EntitySettingsLemmas
