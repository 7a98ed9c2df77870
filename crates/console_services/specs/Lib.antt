pub mod Strings
pub mod Console
pub mod Modes
pub mod Views
