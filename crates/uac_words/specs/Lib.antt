-- The words of the command line, and what they ask for.
-- What the program's theorem says: to be read and believed.
pub mod Table
pub mod Asked
pub mod Plain
-- What the laws say besides.
pub mod ByClap
pub mod CommandLines
