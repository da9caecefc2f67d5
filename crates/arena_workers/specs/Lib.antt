pub mod Working
pub mod Order
pub mod Starving
