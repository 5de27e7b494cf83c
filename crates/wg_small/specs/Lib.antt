pub mod Small
pub mod Limits
pub mod Ranged
