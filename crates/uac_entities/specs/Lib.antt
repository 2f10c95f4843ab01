-- The entities and the streaming interfaces that the blocks of a descriptor describe.
-- What the program's theorem says: to be read and believed.
pub mod Entities
pub mod EntitySettings
pub mod EntityInterfaces
