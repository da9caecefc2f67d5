pub mod Sharing
pub mod Steps
pub mod Memory
pub mod LaidLemmas
