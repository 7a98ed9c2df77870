pub mod Sites
pub mod Blocks
pub mod Kept
pub mod Marks
pub mod Steps
pub mod Moved
pub mod Laws
