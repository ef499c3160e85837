pub mod Closing
pub mod Laws
