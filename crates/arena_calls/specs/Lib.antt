pub mod Streams
pub mod ReadAll
pub mod Lines
pub mod Ends
pub mod Tallies
pub mod Arguments
pub mod Messages
pub mod Budget
