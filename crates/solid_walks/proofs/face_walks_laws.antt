pub mod Above
pub mod HalfCodes
pub mod TableWalks
pub mod RingWalks
pub mod FaceWalks
pub mod CycleWalks
pub mod Yielded
