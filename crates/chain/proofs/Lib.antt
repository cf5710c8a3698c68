pub mod Links
pub mod Rows
pub mod Passed
pub mod Computing
