mod Prelude
pub mod lamina
pub mod prism
pub mod swept
pub mod Loops
pub mod Whole
pub mod LaminaRows
pub mod LaminaVolumes
pub mod Block
pub mod BlockOps
