pub mod Lives
pub mod Living
pub mod Waits
