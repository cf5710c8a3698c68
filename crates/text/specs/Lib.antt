pub mod Pieces
pub mod Numbers
pub mod Lines
pub mod RowLines
pub mod Inner
