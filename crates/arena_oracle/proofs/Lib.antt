pub mod LimitLemmas
pub mod ReportLemmas
pub mod TurnLemmas
pub mod EndLemmas
pub mod ReturnLemmas
pub mod OneRunLemmas
