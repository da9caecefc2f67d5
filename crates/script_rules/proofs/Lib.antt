pub mod EntryLemmas
pub mod EffectLemmas
pub mod LookupLemmas
pub mod TableLemmas
pub mod RunLemmas
mod TextLemmas
mod ReadingLemmas
mod OneReadingLemmas
mod SomeReadingLemmas
mod Rows
