pub mod Calls
pub mod Encoders
pub mod Infos
pub mod Genuine
pub mod Judged
