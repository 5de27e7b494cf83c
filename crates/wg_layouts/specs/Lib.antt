pub mod Ascending
pub mod Counted
pub mod Places
