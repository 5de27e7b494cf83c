pub mod Moves
pub mod Seats
pub mod Whole
pub mod Drawing
