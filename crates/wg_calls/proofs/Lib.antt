pub mod Begun
pub mod Infos
pub mod Genuine
pub mod Owners
pub mod Judged
