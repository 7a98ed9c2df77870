pub mod Faults
pub mod Parts
pub mod Rules
pub mod Words
