-- The device: the streams of its interfaces, its part of the world, and what each of its calls does to it.
-- What the program's theorem says: to be read and believed.
pub mod InterfaceStreams
pub mod DeviceWorld
pub mod Jacks
-- What the laws say besides.
pub mod DeviceStreams
pub mod DeviceKept
pub mod DeviceTicks
-- What the contracts below them cite: steps of the code, no part of what is promised.
pub mod DeviceStreamTicks
pub mod Linked
pub mod DeviceTurns
pub mod Following
pub mod Stillness
pub mod DeviceWaits
pub mod DeviceSums
