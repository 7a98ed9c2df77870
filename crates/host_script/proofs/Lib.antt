pub mod FormLemmas
pub mod Loops
pub mod Views
