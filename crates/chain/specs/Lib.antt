pub mod Link
pub mod Chain
pub mod Inner
