pub mod TopologyGroupLemmas
pub mod TopologyRuleLemmas
pub mod TopologyCycleLemmas
pub mod TopologySizeLemmas
pub mod ClustersLemmas
pub mod FunctionKeptPinLemmas
pub mod FunctionKeptByteLemmas
pub mod FunctionKeptChannelLemmas
pub mod FunctionKeptRangeLemmas
pub mod FunctionKeptLinkLemmas
pub mod FunctionKeptNumberLemmas
pub mod FunctionFoundLemmas
-- What a descriptor's bytes come to.
pub mod ConfigurationLemmas
pub mod DescriptionLemmas
