pub mod Exports
pub mod Ranges
pub mod Inners
pub mod Owned
pub mod Waits
pub mod Kept
pub mod Lends
