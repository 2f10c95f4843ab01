pub mod PrintingLemmas
pub mod SpellingsLemmas
pub mod CutTextsLemmas
pub mod KindsLemmas
pub mod ReadBackLemmas
pub mod WriteHexLemmas
