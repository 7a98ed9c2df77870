pub mod LoadLemmas
pub mod BlockLemmas
pub mod PageLemmas
pub mod MarkLemmas
pub mod LawLemmas
pub mod InstallLemmas
pub mod OrderLemmas
