pub mod NominalLemmas
mod Worked
