pub mod Alike
pub mod Groups
pub mod Grown
pub mod Rules
pub mod SameTargets
