pub mod RegAccess
