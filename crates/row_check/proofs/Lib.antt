pub mod Answers
pub mod Instances
