pub mod Boundary
pub mod FlatExpansion
pub mod FlatRegisters
pub mod FlatAccess
