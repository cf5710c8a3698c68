pub mod EntryLaws
pub mod CoverLaws
pub mod RightsLaws
pub mod Instances
pub mod Computing
