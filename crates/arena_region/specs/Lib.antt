pub mod Bytes
pub mod Lends
pub mod Ownership
pub mod Laid
