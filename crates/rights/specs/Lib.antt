pub mod Entries
pub mod Rights
pub mod Inner
pub mod RightsLaws
pub mod Instances
