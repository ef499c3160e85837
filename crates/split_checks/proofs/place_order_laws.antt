pub mod PlacePoints
pub mod Sorting
pub mod Ordered
