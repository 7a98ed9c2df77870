pub mod MarkLemmas
pub mod PageLemmas
pub mod RunLemmas
pub mod NumberLemmas
pub mod PartLemmas
pub mod TouchedLemmas
pub mod PartLaws
