pub mod Strips
pub mod Caps
pub mod CapOps
pub mod Laws
