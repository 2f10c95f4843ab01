-- Why a line of a script isn't done.
-- What the contracts below them cite: steps of the code, no part of what is promised.
pub mod DescriptorFaults
