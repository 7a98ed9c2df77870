pub mod Lists
pub mod Runs
pub mod Pages
pub mod Changes
pub mod Laws
