mod Prelude
pub mod Known
pub mod Computed
