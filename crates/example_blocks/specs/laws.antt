-- Facts that implementations of traits cite.
pub mod ChainLaws
pub mod ObjectLaws
