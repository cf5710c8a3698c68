pub mod Operands
pub mod Constructors
pub mod Pairs
pub mod Answers
