pub mod Limbs
pub mod Digits
pub mod Wrap
pub mod Bits
pub mod Laws
