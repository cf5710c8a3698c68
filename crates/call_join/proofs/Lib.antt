pub mod Next
pub mod Joining
pub mod Order
pub mod Answers
pub mod Going
pub mod JoinLaws
pub mod Instances
pub mod Computing
