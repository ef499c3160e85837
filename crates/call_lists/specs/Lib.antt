pub mod Common
pub mod Making
pub mod Laws
pub mod Untouched
