pub mod PendingLemmas
pub mod KeptLemmas
pub mod TableLemmas
pub mod StateLemmas
pub mod ArrangedLemmas
pub mod ListedLemmas
