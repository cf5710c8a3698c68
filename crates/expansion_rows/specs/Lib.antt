pub mod Rows
pub mod WidthRule
pub mod Turns
pub mod Held
pub mod Inner
pub mod RowsCut
