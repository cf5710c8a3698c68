pub mod Routes
pub mod Judging
pub mod Arrival
