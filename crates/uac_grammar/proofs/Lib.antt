pub mod LittleLemmas
pub mod RowLemmas
pub mod VerdictLemmas
pub mod ReaderKeptLemmas
pub mod Worked
pub mod StopLemmas
