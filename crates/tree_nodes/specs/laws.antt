-- Facts that implementations of traits cite.
pub mod TreeLaws
pub mod StmtLaws
