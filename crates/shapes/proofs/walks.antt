pub mod FaceLoops
pub mod SolidFaces
pub mod FirstEdges
pub mod Corners
