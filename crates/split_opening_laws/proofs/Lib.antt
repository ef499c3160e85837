mod Prelude
pub mod cycles
pub mod sections
pub mod strips
pub mod copies
pub mod caps
pub mod opening
