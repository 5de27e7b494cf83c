pub mod Calling
pub mod Taking
