pub mod Inner
pub mod Run
pub mod Output
pub mod Examples
