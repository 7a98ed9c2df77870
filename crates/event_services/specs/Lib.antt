pub mod Levels
pub mod Clock
pub mod Changes
pub mod Creation
pub mod Notices
pub mod Checks
pub mod Waits
pub mod Laws
