pub mod CrossingOps
pub mod Kept
pub mod AtPlace
pub mod Laws
