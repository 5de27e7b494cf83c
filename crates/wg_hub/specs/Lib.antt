pub mod Hubs
