pub mod Every
pub mod Sums
pub mod Operands
pub mod Pairs
pub mod Answers
pub mod Constructors
