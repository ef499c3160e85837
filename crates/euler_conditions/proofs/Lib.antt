mod Prelude
pub mod Known
pub mod Coded
pub mod Orders
pub mod Tests
pub mod Parallel
pub mod Around
pub mod Solids
pub mod Borders
