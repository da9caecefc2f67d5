pub mod TextLemmas
pub mod ShapeLemmas
pub mod PlaceLemmas
pub mod EndLemmas
