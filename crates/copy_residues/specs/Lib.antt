pub mod Range
pub mod Residues
pub mod RowCheck
pub mod Answers
