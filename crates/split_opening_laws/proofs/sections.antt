pub mod Numbered
pub mod StillFree
pub mod OpenedRows
pub mod StillBetween
pub mod InTurn
