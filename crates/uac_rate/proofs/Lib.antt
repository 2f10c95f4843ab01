pub mod LevelsLemmas
pub mod PacketSizesLemmas
pub mod ReportsLemmas
pub mod SteadinessLemmas
mod Worked
mod WorkedLevels
