-- The pace of packets, feedback reports, steadiness, and the bands in which levels stay.
-- What the program's theorem says: to be read and believed.
pub mod Levels
pub mod PacketSizes
pub mod Reports
pub mod Steadiness
-- What the laws say besides.
pub mod LevelLaws
