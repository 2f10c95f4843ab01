-- How long a stream takes to come home after a lost packet.
-- What the program's theorem says: to be read and believed.
pub mod Settling
-- What the laws say besides.
pub mod SettleLaws
