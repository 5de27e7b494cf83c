pub mod Lists
pub mod Naming
pub mod Seating
pub mod Sending
pub mod Vacant
