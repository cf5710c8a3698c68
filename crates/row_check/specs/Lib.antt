pub mod RowAnswer
pub mod Instances
