pub mod PageLemmas
pub mod MarkLemmas
pub mod CopyLemmas
pub mod MapLemmas
pub mod BlockLemmas
