pub mod OpChain
