pub mod AloneLemmas
pub mod OutcomeLemmas
