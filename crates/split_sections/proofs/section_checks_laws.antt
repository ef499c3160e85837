pub mod Above
pub mod HoleFlags
pub mod Stages
pub mod Facts
