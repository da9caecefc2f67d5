pub mod NumberLemmas
pub mod FieldLemmas
pub mod DecisionLemmas
pub mod ReadingLemmas
pub mod HexLemmas
pub mod PrintingLemmas
pub mod LineLemmas
pub mod RoomLemmas
