pub mod UnreadLemmas
pub mod ScriptLinesLemmas
pub mod ScriptLinesTakeLemmas
pub mod WordsLemmas
pub mod SetupBytesLemmas
pub mod ScriptNumeralsLemmas
pub mod ScriptNumeralsUniqueLemmas
