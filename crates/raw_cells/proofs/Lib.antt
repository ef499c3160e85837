mod Prelude
pub mod Memory
pub mod numbers_laws
pub mod Sharing
