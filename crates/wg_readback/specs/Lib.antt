pub mod Texts
pub mod Shapes
pub mod Printable
pub mod Laws
