pub mod Bits
pub mod Sets
pub mod Walks
pub mod Edits
pub mod Printed
