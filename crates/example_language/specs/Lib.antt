pub mod Copying
pub mod Grammar
pub mod Meaning
pub mod Nodes
pub mod Parsing
pub mod Placing
pub mod Trees
pub mod Values
