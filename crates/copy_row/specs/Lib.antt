pub mod Columns
pub mod Rows
pub mod Trace
pub mod Inner
