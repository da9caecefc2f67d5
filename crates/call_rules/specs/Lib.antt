pub mod Machine
pub mod Requests
pub mod Counts
pub mod MadeFirst
pub mod Grammar
pub mod Replies
pub mod Generator
pub mod Summary
