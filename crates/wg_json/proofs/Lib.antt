pub mod Trees
pub mod Placing
pub mod Ascending
pub mod Turns
