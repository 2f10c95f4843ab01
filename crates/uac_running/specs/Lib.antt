-- The running device under its jacks' tones: the world, its events, what is said of them and in the report, and what is kept of it.
-- What the program's theorem says: to be read and believed.
pub mod ReportLines
pub mod RunningWorld
pub mod RunningNames
pub mod RunningLines
pub mod RunningTransfers
pub mod Events
-- What the laws say besides.
pub mod EventTicks
-- What the contracts below them cite: steps of the code, no part of what is promised.
pub mod TickCounts
pub mod RunningKept
pub mod Silence
pub mod Quiet
pub mod Ahead
