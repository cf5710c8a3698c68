pub mod Join
pub mod JoinLaws
pub mod Steps
pub mod Instances
pub mod Inner
