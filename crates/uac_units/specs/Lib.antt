-- Units that render and meters that hear, each by its kind.
-- What the program's theorem says: to be read and believed.
pub mod Fitting
pub mod Hearing
pub mod MeterReadings
pub mod Rendering
-- What the contracts below them cite: steps of the code, no part of what is promised.
pub mod SampleRows
pub mod SampleLanes
pub mod Unity
