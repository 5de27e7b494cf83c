pub mod Rules
pub mod Slots
