pub mod Objects
pub mod Effects
pub mod Machine
pub mod Grammar
pub mod Outcomes
