pub mod SumLemmas
pub mod HoldingLemmas
pub mod RunLemmas
pub mod ResizeLemmas
pub mod MarkLemmas
pub mod LeftLemmas
