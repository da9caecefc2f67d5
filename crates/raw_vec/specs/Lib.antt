pub mod Growth
pub mod Held
pub mod Storage
pub mod Rows
