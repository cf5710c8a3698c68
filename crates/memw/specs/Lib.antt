pub mod MemwColumns
pub mod AlignedColumns
pub mod RegisterColumns
pub mod Rows
pub mod CarryExamples
pub mod Tables
pub mod Inner
