pub mod Images
pub mod Wholes
pub mod Fixes
pub mod Transitions
pub mod Laws
