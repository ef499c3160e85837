pub mod FreshNumbers
pub mod Handle
pub mod Calls
