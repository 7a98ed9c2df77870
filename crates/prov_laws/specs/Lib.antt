pub mod Checked
pub mod CheckLaws
pub mod Entries
pub mod Convert
pub mod Functions
pub mod Calls
pub mod Behind
pub mod Notify
