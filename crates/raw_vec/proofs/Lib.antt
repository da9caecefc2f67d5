mod RoomLemmas
mod ByteLemmas
pub mod Windows
