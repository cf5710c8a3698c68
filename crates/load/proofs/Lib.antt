pub mod Drawing
pub mod Loaded
pub mod LoadLaws
pub mod Instances
pub mod Computing
