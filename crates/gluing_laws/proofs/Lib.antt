mod Prelude
pub mod glue
pub mod Listed
pub mod Seams
pub mod Measures
pub mod FromConditions
