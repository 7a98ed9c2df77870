pub mod ListLemmas
pub mod ViewLemmas
pub mod DatabaseLemmas
pub mod LawLemmas
pub mod AllLemmas
