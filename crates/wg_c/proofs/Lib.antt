mod AsBox
mod AsRecorderBox
pub mod Crossing
pub mod Inside
mod Lendable
mod Lending
mod Pairs
pub mod Waits
