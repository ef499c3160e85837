pub mod OneSolid
pub mod Solids
pub mod RingIn
pub mod RingOut
pub mod Kfmrh
