pub mod drawn
pub mod SplitOps
pub mod Laws
pub mod opened
pub mod volumes
pub mod sides
pub mod measures
