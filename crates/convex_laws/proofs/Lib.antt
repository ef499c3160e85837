mod Prelude
mod Levels
mod Blocks
pub mod Bends
mod Within
mod Apart
mod Seen
pub mod Others
mod Volumes
mod Turns
mod Planes
mod Links
mod Together
mod Drawn
mod Planar
mod Touched
mod Filled
mod Rounded
mod LoopsCut
mod Standing
mod Beside
mod Rounds
mod Pieces
mod Section
mod Caps
mod CapNormals
mod Parts
mod Traces
pub mod Strict
mod Built
mod Refused
