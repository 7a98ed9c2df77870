pub mod Formed
pub mod Runs
pub mod PassedLemmas
