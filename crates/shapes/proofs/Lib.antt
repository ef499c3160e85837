mod Prelude
pub mod Areas
pub mod fresh
pub mod walks
pub mod glue
pub mod split
pub mod measures
pub mod Common
