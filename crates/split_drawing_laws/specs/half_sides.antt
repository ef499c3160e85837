pub mod HalfSides
pub mod Laws
