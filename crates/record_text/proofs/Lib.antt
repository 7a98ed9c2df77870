pub mod Back
pub mod ConsoleLemmas
pub mod HexLemmas
pub mod ImageBack
pub mod ServiceLemmas
pub mod ServiceTable
