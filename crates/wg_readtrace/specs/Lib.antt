pub mod Words
pub mod Forms
pub mod Given
pub mod Reading
pub mod Drafts
pub mod Lines
