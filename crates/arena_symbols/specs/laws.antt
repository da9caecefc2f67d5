-- Facts that implementations of traits cite.
pub mod NameLaws
pub mod TableLaws
