pub mod Steps
pub mod ReadRow
pub mod Plain
pub mod RowIff
pub mod Instances
pub mod Theorems
pub mod Inner
