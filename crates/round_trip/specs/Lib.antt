pub mod Trip
pub mod Inner
pub mod RoundTrip
pub mod Instances
