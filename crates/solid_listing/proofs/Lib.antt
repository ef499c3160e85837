mod Prelude
pub mod Digits
pub mod Contents
pub mod EmptyModels
pub mod LineLaws
pub mod Walks
pub mod WritingLaws
pub mod TellingLaws
pub mod Parsing
pub mod Words
pub mod Lines
pub mod KindLines
pub mod Tells
