mod RowLemmas
mod VecLemmas
mod CreditLemmas
mod BulkLemmas
mod ExtendLemmas
mod FilterLemmas
mod TurnLemmas
mod SiftLemmas
mod DedupLemmas
mod CompareLemmas
mod DebugLemmas
mod SpliceLemmas
mod SpliceEnds
pub mod Layers
