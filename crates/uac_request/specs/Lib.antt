-- Control requests: what a device answers, and what each leaves.
-- What the program's theorem says: to be read and believed.
pub mod Requests
pub mod RequestElements
-- What the contracts below them cite: steps of the code, no part of what is promised.
pub mod Owners
pub mod RuleNumbers
