pub mod Glue
pub mod GlueOps
pub mod Part
