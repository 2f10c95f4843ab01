pub mod WritingLemmas
pub mod MemoryLemmas
pub mod KnownBytesLemmas
pub mod NumeralsLemmas
pub mod StdEdgesLemmas
