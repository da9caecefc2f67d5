pub mod OrderLemmas
pub mod KindLemmas
pub mod StarvedLemmas
