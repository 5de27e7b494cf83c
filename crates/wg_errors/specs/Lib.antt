pub mod Errors
pub mod Catching
