mod Prelude
mod section_checks_laws
mod section_cycles_laws
pub mod section_edges_laws
