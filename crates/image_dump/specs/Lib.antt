pub mod Code
pub mod Listings
pub mod Operands
pub mod Puts
pub mod Reports
