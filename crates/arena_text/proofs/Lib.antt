pub mod CharLemmas
pub mod RoomLemmas
pub mod TextLemmas
mod Rows
