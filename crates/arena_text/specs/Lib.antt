pub mod Growth
pub mod Builders
pub mod Changes
