pub mod CallLemmas
pub mod BenchLemmas
pub mod FrontPanelLemmas
pub mod CompletenessLemmas
pub mod GeneratedCallLemmas
pub mod CallHandingOnLemmas
