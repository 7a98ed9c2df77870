pub mod RefusalLemmas
pub mod PairLemmas
pub mod WordLemmas
pub mod MarkLemmas
pub mod BlockLemmas
pub mod ListLemmas
