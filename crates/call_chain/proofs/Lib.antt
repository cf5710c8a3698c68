pub mod Parse
pub mod Chained
pub mod Group
pub mod Unwrapped
