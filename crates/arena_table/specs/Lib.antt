pub mod Contents
pub mod Tables
pub mod Edits
pub mod Walks
