-- The lemma that crates above cite if a walk is a chain of iterators: what it gives.
pub use Rattle.arena_bits.proofs.ScanLemmas.{walk_gives_all}
