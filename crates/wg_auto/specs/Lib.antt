pub mod Automatic
pub mod Walks
pub mod Merged
