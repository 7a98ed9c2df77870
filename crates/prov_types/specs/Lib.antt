pub mod Spans
pub mod Kinds
pub mod Transfer
pub mod Fits
pub mod Narrow
pub mod Asked
pub mod Tests
pub mod Laws
