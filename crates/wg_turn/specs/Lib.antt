pub mod Entries
pub mod Turns
pub mod Passes
pub mod Closings
