-- A front panel whose knobs change controls, the interrupt data messages by which a host hears of it, and both under a script.
-- What the program's theorem says: to be read and believed.
pub mod Messages
pub mod Knobs
pub mod Panels
pub mod PanelLines
pub mod DeskPhrases
pub mod Desks
pub mod PanelLaws
pub mod DeskLaws
-- What the contracts below them cite: steps of the code, no part of what is promised.
pub mod PanelCalls
pub mod DeskLines
pub mod FrontKept
pub mod DeskKept
pub mod DeskMachine
