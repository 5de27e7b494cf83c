pub mod Steps
pub mod Trace
pub mod Orders
pub mod Laws
pub mod Examples
