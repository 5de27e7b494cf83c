pub mod Numbers
pub mod Lying
pub mod Covered
pub mod Accessed
pub mod Printed
pub mod Meeting
pub mod ViewsMeeting
pub mod Attaching
