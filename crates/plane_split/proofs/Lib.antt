mod Prelude
mod Conditions
mod SplitModels
mod Parted
pub mod Planes
mod solid_opening_laws
