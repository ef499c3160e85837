pub mod Sided
pub mod Laws
