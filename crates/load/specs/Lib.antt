pub mod Load
pub mod LoadLaws
pub mod Instances
pub mod Inner
