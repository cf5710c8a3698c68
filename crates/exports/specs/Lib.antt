pub mod Exports
pub mod FlatExpansion
pub mod FlatRegisters
pub mod FlatAccess
