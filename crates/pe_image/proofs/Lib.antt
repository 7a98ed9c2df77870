pub mod CheckLemmas
pub mod SectionLemmas
pub mod HeaderLemmas
pub mod ImageLemmas
pub mod SoundLemmas
pub mod PlaceLemmas
