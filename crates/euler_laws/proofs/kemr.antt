pub mod KemrSound
pub mod Kemr
