-- That a block's spelling is read back as the block, and that what is read spells the block.
pub mod SpellingLemmas
pub mod BlockParsingLemmas
pub mod LawsLemmas
pub mod EndpointsLemmas
pub mod Headset
