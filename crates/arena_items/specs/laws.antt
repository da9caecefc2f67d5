-- Facts that implementations of traits cite.
pub mod LayoutLaws
pub mod FormLaws
pub mod NumberLaws
pub mod NonZeroLaws
pub mod OptionLaws
pub mod PairLaws
pub mod HandleLaws
pub mod FootprintLaws
