pub mod Window
pub mod Inner
