pub mod Zero
pub mod MadeRows
