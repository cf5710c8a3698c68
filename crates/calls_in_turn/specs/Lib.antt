pub mod Accepted
pub mod InTurn
pub mod Counts
pub mod Inner
