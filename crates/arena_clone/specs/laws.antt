-- Facts that implementations of traits cite.
pub mod KindLaws
pub mod EitherLaws
pub mod KeyLaws
pub mod MapLaws
