pub mod GeneratedDescriptorLemmas
pub mod GeneratedScriptLemmas
pub mod CopyRestLemmas
