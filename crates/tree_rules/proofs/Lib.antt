mod Rows
pub mod StepLemmas
pub mod Holes
pub mod ProgramPlaces
pub mod Places
pub mod Readings
mod FirstTokens
mod RefusalLemmas
pub mod TokenLemmas
mod FitLemmas
mod RoundTrip
mod WellFormedLemmas
mod FoldLemmas
mod WeightLemmas
pub mod NameLemmas
pub mod FindingLemmas
