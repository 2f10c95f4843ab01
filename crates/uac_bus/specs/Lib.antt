-- A script's lines, one after the other: what the bus keeps of the world.
-- What the contracts below them cite: steps of the code, no part of what is promised.
pub mod BusKept
pub mod Beginning
