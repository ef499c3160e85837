pub mod Strips
pub mod StripOps
pub mod Opened
pub mod Laws
