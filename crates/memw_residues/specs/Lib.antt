pub mod Residues
pub mod Inner
pub mod Answers
pub mod MadeRows
