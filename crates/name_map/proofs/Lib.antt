pub mod EntryLemmas
pub mod MapLemmas
pub mod NameLemmas
