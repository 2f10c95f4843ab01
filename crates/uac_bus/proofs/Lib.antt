pub mod BusWorldDescriptorLemmas
pub mod BusWorldLemmas
