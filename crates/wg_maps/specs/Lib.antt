pub mod Mappings
pub mod Waits
