-- The rules of an audio function's topology, each as a test of one entity or one streaming interface; and walks along links.
-- What the program's theorem says: to be read and believed.
pub mod Walk
pub mod Table
pub mod Links
pub mod Clusters
pub mod Domains
pub mod Offenders
pub mod Rules
pub mod RuleFaults
-- What the laws say besides.
pub mod Order
pub mod Cycles
pub mod LinkCycles
-- What the contracts below them cite: steps of the code, no part of what is promised.
pub mod Count
pub mod Noting
pub mod NodeReleasing
pub mod Indices
pub mod RuleNumbers
pub mod NameRules
pub mod WalkRules
pub mod Behind
pub mod Signals
pub mod ShapeRules
pub mod EndRules
