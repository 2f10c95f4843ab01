-- What the blocks of a USB Audio Class 2.0 configuration are as bytes, and by which block bytes are read.
-- What the program's theorem says: to be read and believed.
pub mod Standard
pub mod Layout
pub mod Little
pub mod Spelling
pub mod LayoutRows
pub mod Endpoints
pub mod Classes
pub mod BlockParsing
pub mod Kinds
pub mod BlockTurns
pub mod Contexts
pub mod BlockFields
-- What the laws say besides.
pub mod WellFormed
pub mod Laws
