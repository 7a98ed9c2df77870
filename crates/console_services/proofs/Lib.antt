pub mod ModeLemmas
pub mod StringLemmas
