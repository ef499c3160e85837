pub mod Parted
pub mod Laws
