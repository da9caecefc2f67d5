-- Facts that implementations of traits cite.
pub mod FlatLaws
pub mod KindLaws
