pub mod Starts
pub mod RingSteps
pub mod OneFace
pub mod Faces
pub mod FaceTurns
pub mod WholeSolid
