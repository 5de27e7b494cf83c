pub mod Passing
pub mod BoundLemmas
pub mod Keeping
pub mod Setting
pub mod Mapped
pub mod Asking
pub mod Sizes
