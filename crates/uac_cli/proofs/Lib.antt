pub mod ProgramLemmas
