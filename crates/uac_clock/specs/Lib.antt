-- Clocks: the rates at which they run, and the ticks that they give.
-- What the program's theorem says: to be read and believed.
pub mod Nominal
pub mod Ticks
