pub mod Granted
pub mod Accepting
pub mod Agreeing
