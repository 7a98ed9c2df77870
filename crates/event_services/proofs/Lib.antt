pub mod ListLemmas
pub mod WaitLemmas
