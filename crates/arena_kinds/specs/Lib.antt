pub mod Asks
pub mod Kinds
pub mod Copies
pub mod Dummies
pub mod laws
