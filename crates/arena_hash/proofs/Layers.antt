-- The lemmas that a layer above cites: what a call on other blocks leaves of a map.
pub use Rattle.arena_hash.proofs.FrameLemmas.{map_stays}
