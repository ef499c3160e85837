pub mod Sides
pub mod Places
pub mod Crossings
pub mod Drawing
pub mod Section
pub mod Opening
pub mod Split
