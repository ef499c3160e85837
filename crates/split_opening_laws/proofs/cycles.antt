pub mod Meets
pub mod Orbits
pub mod RisingLists
pub mod BelowHalves
pub mod NextBelow
