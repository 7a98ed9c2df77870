pub mod Arguments
pub mod Checks
pub mod Outputs
pub mod Inputs
