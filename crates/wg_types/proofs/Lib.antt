pub mod RefLemmas
pub mod WordLemmas
