-- Gains of volumes, scaling and saturation.
-- What the program's theorem says: to be read and believed.
pub mod Gain
