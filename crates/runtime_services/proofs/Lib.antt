pub mod OutputLemmas
pub mod MarkLemmas
pub mod InputLemmas
pub mod SetLemmas
