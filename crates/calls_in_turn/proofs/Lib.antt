pub mod Written
pub mod Counted
pub mod Typed
pub mod Behind
pub mod Records
pub mod Counting
pub mod Expanding
pub mod Computing
