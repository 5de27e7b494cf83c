pub mod NameLemmas
pub mod Between
