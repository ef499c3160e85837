pub mod Round
pub mod Stages
pub mod Turn
pub mod Ending
pub mod Opening
pub mod Glued
