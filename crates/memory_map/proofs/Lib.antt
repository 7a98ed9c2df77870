pub mod RunLemmas
pub mod MapLemmas
pub mod StretchLemmas
pub mod WriteLemmas
pub mod LawLemmas
