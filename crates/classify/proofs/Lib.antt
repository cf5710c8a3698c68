pub mod Examples
pub mod Stamps
pub mod RouteLaws
