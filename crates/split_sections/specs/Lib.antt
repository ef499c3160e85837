pub mod section_checks
pub mod section_cycles
pub mod section_edges
pub mod Common
