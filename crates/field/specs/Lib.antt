pub mod Field
pub mod Rows
pub mod Constants
pub mod Carries
pub mod Theorems
pub mod Answers
