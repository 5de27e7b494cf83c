pub mod After
pub mod Attached
