pub mod Kinds
pub mod Queue
pub mod Timers
pub mod Calls
pub mod Laws
