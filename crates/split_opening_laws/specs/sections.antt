pub mod InTurn
pub mod Capped
pub mod Laws
