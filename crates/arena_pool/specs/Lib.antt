pub mod Kinds
pub mod Pool
pub mod Names
pub mod Lending
pub mod Claiming
pub mod Sharing
pub mod GivingUp
