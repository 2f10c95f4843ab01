-- Reading descriptor bytes: what a reader answers, and what the bytes of a block come to.
-- What the program's theorem says: to be read and believed.
pub mod Stop
-- What the contracts below them cite: steps of the code, no part of what is promised.
pub mod Row
pub mod ReaderKept
pub mod Verdict
