pub mod Entries
pub mod Items
pub mod Parts
pub mod Pieces
pub mod Printing
pub mod Seen
pub mod UsageSets
