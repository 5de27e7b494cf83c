pub mod PrintingLemmas
pub mod UsageWordLemmas
