pub mod Database
pub mod Whole
pub mod Calls
pub mod Laws
