pub mod Effects
pub mod UnsetCells
pub mod Notes
