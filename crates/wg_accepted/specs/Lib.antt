pub mod Accepted
pub mod Agreeing
