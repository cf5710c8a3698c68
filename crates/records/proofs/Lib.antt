pub mod Records
pub mod RowCount
pub mod Table
pub mod RecordList
pub mod Computing
