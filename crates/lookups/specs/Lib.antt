pub mod Lookups
pub mod LookupLaws
pub mod Instances
pub mod Inner
