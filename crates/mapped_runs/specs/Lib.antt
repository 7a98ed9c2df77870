pub mod Places
pub mod Checked
pub mod Shown
pub mod Runs
pub mod Made
