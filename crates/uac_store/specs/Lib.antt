-- The values of controls, which of them are legal, and the rates of clocks.
-- What the program's theorem says: to be read and believed.
pub mod Keyed
pub mod Selectors
pub mod ControlTable
pub mod StoreControls
pub mod Rates
pub mod StoreValues
