pub mod ConsoleLemmas
pub mod FieldLemmas
pub mod LawLemmas
pub mod MemoryLemmas
pub mod ReadLemmas
