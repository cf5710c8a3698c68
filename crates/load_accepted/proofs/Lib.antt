pub mod Calls
pub mod Tries
pub mod LoadAccepted
pub mod Instances
