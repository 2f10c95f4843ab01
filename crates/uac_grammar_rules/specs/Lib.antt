-- Which blocks make a descriptor of USB Audio Class 2.0.
-- What the program's theorem says: to be read and believed.
pub mod Production
pub mod BlockRole
pub mod BlockOrder
pub mod OrderStages
pub mod Values
pub mod Cutting
pub mod Fault
pub mod Grammar
pub mod Sentence
-- What the laws say besides.
pub mod Progress
pub mod Earlier
pub mod FirstFault
