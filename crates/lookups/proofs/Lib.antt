pub mod Answers
pub mod Answered
pub mod LookupLaws
pub mod Instances
pub mod Computing
