-- What the proofs of panels rest on.
pub mod KnobLemmas
pub mod KnobDeviceLemmas
pub mod PendingLemmas
pub mod PanelLemmas
pub mod BytesLemmas
pub mod StartLemmas
pub mod MessageLemmas
pub mod FollowLemmas
pub mod PanelTextLemmas
pub mod FrontLinkLemmas
pub mod FrontFollowLemmas
pub mod DeskStepLemmas
pub mod DeskDescriptorLemmas
pub mod DeskPhraseLemmas
pub mod DeskLawLemmas
pub mod DeskMachineLemmas
mod Worked
