pub mod Whole
pub mod Ends
pub mod RoundTrip
pub mod Instances
