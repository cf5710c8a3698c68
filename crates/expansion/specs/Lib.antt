pub mod Tries
pub mod Refusals
pub mod Expansion
pub mod Consequences
pub mod RowNumbers
