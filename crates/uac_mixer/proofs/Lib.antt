-- What the proofs of views rest on.
pub mod MixerElementsByteLemmas
pub mod MixerElementsLemmas
pub mod MixerElementsListLemmas
pub mod RequestsLemmas
pub mod AgreementStartLemmas
pub mod AgreementLemmas
pub mod ViewLinksLemmas
pub mod ViewTransfersLemmas
pub mod ViewLinksCallLemmas
pub mod ViewLinksReadLemmas
pub mod MixerElementsKeyLemmas
mod Worked
pub mod ReadingLemmas
pub mod UnchangedLemmas
