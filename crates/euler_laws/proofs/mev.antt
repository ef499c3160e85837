pub mod MevSound
pub mod MevLoneSound
pub mod Mev
