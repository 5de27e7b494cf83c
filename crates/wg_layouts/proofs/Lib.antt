pub mod Apart
pub mod Clear
pub mod Found
pub mod InOrder
pub mod Joined
pub mod Sums
