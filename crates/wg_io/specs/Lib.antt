pub mod Causes
pub mod Exchange
pub mod Memory
pub mod Reading
pub mod Standard
