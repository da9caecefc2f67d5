pub mod StreamLemmas
pub mod LineLemmas
pub mod ReplyLemmas
pub mod WordLemmas
pub mod StatusLemmas
pub mod RunLemmas
pub mod GeneratingLemmas
