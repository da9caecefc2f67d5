pub mod TaskLemmas
pub mod MainLemmas
pub mod TextLemmas
pub mod PrintoutLemmas
pub mod RenderingLemmas
pub mod RunLemmas
