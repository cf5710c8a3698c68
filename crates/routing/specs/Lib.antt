pub mod Routing
pub mod Inner
pub mod InOrder
