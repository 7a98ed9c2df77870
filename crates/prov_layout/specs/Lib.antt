pub mod Offsets
pub mod Pieces
pub mod Laid
pub mod Joins
pub mod Loads
pub mod Stores
pub mod Stack
pub mod Laws
