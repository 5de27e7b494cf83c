pub mod Holders
pub mod Tokens
