pub mod Values
pub mod CopyOperands
pub mod Implied
