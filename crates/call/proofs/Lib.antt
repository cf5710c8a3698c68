pub mod Ops
pub mod GoodCalls
pub mod Cuts
pub mod Instances
pub mod Computing
