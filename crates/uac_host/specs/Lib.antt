-- The host: its part of the world, what each of its calls does to it, and what it keeps of it.
-- What the program's theorem says: to be read and believed.
pub mod HostWorld
pub mod HostCalls
-- What the contracts below them cite: steps of the code, no part of what is promised.
pub mod HostFields
pub mod HostKept
