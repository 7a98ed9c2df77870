pub mod Members
pub mod Accepted
pub mod Lawful
mod Counts
