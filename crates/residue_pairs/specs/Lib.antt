pub mod CopyOperands
pub mod Implied
