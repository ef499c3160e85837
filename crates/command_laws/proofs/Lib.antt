mod Prelude
mod Solids
pub mod Outlines
mod SweptFaces
mod LaminaFaces
pub mod BlockFaces
pub mod Kept
mod Accepted
pub mod OnFaces
mod SweptAlone
pub mod DrawnAlone
mod SweptLoops
mod SweptSides
mod SweptRings
mod MovedAreas
pub mod Owners
pub mod Standing
pub mod Turned
pub mod LyingFlat
pub mod BlockFlat
pub mod GlueFlat
pub mod Inner
pub mod splits_laws
pub mod caps_laws
