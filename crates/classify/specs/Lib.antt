pub mod Classify
pub mod TableRecord
pub mod RouteExamples
pub mod RouteLaws
