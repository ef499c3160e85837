mod Prelude
pub mod face_operators_laws
pub mod loop_operators_laws
pub mod steps_laws
pub mod Made
pub mod Parts
pub mod Inverses
pub mod Undone
pub mod Stepped
pub mod Faces
pub mod Merging
pub mod vertex_operators_laws
