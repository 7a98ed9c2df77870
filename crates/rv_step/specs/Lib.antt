pub mod Stores
pub mod Values
pub mod Asks
pub mod Exec
pub mod Steps
pub mod Numbers
pub mod Memory
pub mod Division
