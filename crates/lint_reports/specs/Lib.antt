pub mod Reports
pub mod Room
pub mod Sources
pub mod Taking
