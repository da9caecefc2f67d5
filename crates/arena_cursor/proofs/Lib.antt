pub mod PlaceLemmas
pub mod ApartLemmas
pub mod StepLemmas
pub mod GrowingLemmas
pub mod CountLemmas
