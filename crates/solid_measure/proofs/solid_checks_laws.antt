pub use Rattle.solid_walks.proofs.lone_laws.Searches
pub use Rattle.solid_walks.proofs.face_walks_laws.FaceWalks
pub mod BentFaces
