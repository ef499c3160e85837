mod Prelude
pub mod Overlaid
pub mod CycleRounds
mod FaceRows
mod Numbers
mod Values
mod Loans
mod Spoken
mod KeptSteps
mod Queried
mod Walking
mod Pointers
