mod CallSteps
pub mod DoublingRunLemmas
pub mod TextLemmas
pub mod ReadingLemmas
pub mod ReplyByteLemmas
pub mod DecisionLemmas
pub mod TextRows
pub mod GeneratorLemmas
pub mod SummaryLemmas
