pub mod Runs
pub mod NextLemmas
pub mod ProperKinds
pub mod Bridge
pub mod InPlace
pub mod ReachedLemmas
