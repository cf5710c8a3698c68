pub mod LookupRows
