pub mod Numbers
pub mod Checks
pub mod ImageOf
pub mod Parts
pub mod Placed
pub mod Sound
