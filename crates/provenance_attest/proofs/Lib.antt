pub mod Walks
pub mod Formed
pub mod RegionLemmas
pub mod SiteLemmas
pub mod Judging
pub mod MarkLemmas
pub mod PassLemmas
pub mod TouchedLemmas
