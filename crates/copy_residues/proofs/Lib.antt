pub mod ZeroResidues
pub mod RowFaults
pub mod ResidueAnswers
pub mod CountBorrow
pub mod Computing
pub mod Sums
