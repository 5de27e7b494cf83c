pub mod Rows
pub mod Effects
pub mod Unset
