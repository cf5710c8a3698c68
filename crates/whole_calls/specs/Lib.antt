pub mod Demand
pub mod Halves
pub mod Instances
pub mod LinkInstances
