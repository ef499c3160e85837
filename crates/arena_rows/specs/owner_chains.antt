pub mod Owners
pub mod Chains
