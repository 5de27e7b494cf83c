pub mod Reports
pub mod Shaped
pub mod Once
pub mod Bundled
pub mod Nulls
