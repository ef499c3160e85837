pub mod Follows
pub mod Parting
pub mod Between
pub mod SidesWhole
