pub mod Layout
pub mod Pages
pub mod Opening
pub mod Runs
pub mod Fit
pub mod Calls
pub mod Laws
