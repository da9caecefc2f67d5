-- Facts that implementations of traits cite.
pub mod AgreeLaws
