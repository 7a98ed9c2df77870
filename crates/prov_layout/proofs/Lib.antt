pub mod Runs
pub mod Folds
pub mod Halves
pub mod LaidLemmas
pub mod Sorted
