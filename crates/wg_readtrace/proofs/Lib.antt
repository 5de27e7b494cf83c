pub mod Sets
pub mod Lines
pub mod Drafts
pub mod Ends
pub mod Once
pub mod Whole
