pub use Rattle.arena_items.specs.Beside
pub mod Rows
pub mod Asts
pub mod Forms
pub mod laws
