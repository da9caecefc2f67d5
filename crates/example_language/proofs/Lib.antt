pub mod PlacingLemmas
pub mod ReadingLemmas
pub mod TreeValueLemmas
