pub mod RowExamples
pub mod Examples
