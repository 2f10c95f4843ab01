-- Whole scripts: which are steady, what is promised of their lines, what may be believed after them, and the generated ones.
-- What the program's theorem says: to be read and believed.
pub mod Scripts
pub mod Watches
pub mod ReportPromises
pub mod Moments
pub mod StreamPromises
pub mod Promises
-- What the laws say besides.
pub mod MomentLaws
pub mod PrintedText
pub mod Believed
pub mod Unknown
pub mod Counts
pub mod CutSamples
pub mod ValidSettings
pub mod Generated
