pub mod Loading
pub mod Starts
pub mod Exits
