pub mod Beside
pub mod Shared
pub mod OneFace
pub mod Begun
