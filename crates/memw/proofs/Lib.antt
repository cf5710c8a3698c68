pub mod Wide
pub mod Examples
pub mod AccessTables
