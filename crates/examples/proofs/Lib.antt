pub mod RowExamples
pub mod Computed
