pub mod PlaceLemmas
pub mod NameLemmas
pub mod EditLemmas
pub mod SetLemmas
pub mod StoreLemmas
pub mod LoadLemmas
pub mod SavedLemmas
pub mod LoadedLemmas
