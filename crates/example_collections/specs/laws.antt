-- Facts that implementations of traits cite.
pub mod BranchLaws
pub mod NodeLaws
