-- How levels move over a run: the life of one stream, its bands, rings that never overflow, and streams that come home.
-- What the program's theorem says: to be read and believed.
pub mod Life
pub mod Bands
pub mod BandRun
pub mod Projection
pub mod BandTransfers
pub mod Recording
pub mod Past
pub mod Homing
-- What the laws say besides.
pub mod Beginnings
