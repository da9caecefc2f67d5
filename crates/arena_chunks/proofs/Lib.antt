mod TextLemmas
mod ApartLemmas
mod MeasureLemmas
mod UsedByCallLemmas
mod AskingLemmas
mod CheckpointLemmas
pub mod Layers
