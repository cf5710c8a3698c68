pub mod ReadBack
pub mod Inner
