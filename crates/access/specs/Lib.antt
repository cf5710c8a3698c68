pub mod Access
pub mod RegisterAccess
pub mod RegisterRecord
pub mod Tables
