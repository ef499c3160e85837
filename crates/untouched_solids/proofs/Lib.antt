mod Prelude
mod Stands
mod Frames
mod Untouched
