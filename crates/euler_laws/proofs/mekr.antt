pub mod MekrSpots
pub mod MekrSound
pub mod Mekr
