pub use Rattle.hash_ring.specs.Fx
pub use Rattle.hash_ring.specs.Hashes
pub use Rattle.hash_ring.specs.Finite
pub use Rattle.hash_ring.specs.Slots
pub use Rattle.hash_ring.specs.Searches
pub use Rattle.hash_ring.specs.Walks as MapLists
pub use Rattle.arena_table.specs.Contents
pub use Rattle.arena_table.specs.Tables
pub use Rattle.arena_table.specs.Edits
pub use Rattle.arena_table.specs.Walks
pub mod Policy
pub mod Maps
pub mod Accounts
pub mod Changes
pub mod Collecting
pub mod Sets
pub mod laws
