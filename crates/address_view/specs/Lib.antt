pub mod Windows
pub mod Seen
pub mod Stored
pub mod Ranges
pub mod Laws
