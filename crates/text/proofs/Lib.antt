pub mod Numbers
pub mod Pieces
pub mod Digits
pub mod Written
pub mod Computing
