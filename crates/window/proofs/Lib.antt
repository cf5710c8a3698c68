pub mod WindowLaws
pub mod SingleCells
pub mod Bytes
pub mod Computing
