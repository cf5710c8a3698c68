pub mod Calls
pub mod Ops
pub mod Flat
pub mod Entries
pub mod Cuts
pub mod Instances
pub mod Inner
