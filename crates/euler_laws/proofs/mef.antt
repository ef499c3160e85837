pub mod MefUndo
pub mod MefSound
pub mod Mef
pub mod KefSound
pub mod Kef
