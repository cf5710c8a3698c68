pub mod Kinds
pub mod Inner
