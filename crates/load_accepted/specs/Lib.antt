pub mod LoadAccepted
pub mod LoadRows
pub mod Instances
