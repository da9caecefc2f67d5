pub mod Replies
pub mod Marks
pub mod Serving
pub mod Running
pub mod Runs
