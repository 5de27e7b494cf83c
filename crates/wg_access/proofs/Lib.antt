pub mod Adding
pub mod Sorted
