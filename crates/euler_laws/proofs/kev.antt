pub mod KevSound
pub mod MevLone
pub mod MevUndo
pub mod KevUndo
pub mod Kev
