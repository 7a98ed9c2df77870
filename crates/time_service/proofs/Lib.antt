pub mod DayLemmas
pub mod TimeLemmas
pub mod CodeLemmas
pub mod LawLemmas
pub mod TextLemmas
pub mod NumberLemmas
pub mod ReadLemmas
