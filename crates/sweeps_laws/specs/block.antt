pub mod BlockOps
pub mod Laws
