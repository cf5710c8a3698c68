pub mod Rows
pub mod CopyTable
pub mod Computing
