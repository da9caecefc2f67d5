pub mod Words
pub mod PoolEnds
pub mod Rendering
pub mod MainEnds
pub mod Program
