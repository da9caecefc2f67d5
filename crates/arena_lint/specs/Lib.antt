pub mod Knowing
pub mod Ahead
pub mod Spending
pub mod Stopping
pub mod Steps
pub mod Linting
pub mod All
