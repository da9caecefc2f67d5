-- The lemmas that crates above cite: blocks that are apart, calls that ask for one block after another, what calls
-- leave of values at every depth, and values that are made.
pub use Rattle.arena_chunks.proofs.Layers.{all_from_none as apart_of_none}
pub use Rattle.arena_kinds.proofs.ApartLemmas.{all_in_order, apart_to, apart_turned, apart_front, all_turned}
pub use Rattle.arena_kinds.proofs.AsksLemmas.{same_places, same_asked, asked_then, asked_refused, asked_same, took_asked, block_of}
pub use Rattle.arena_kinds.proofs.MadeLemmas.{
  deep_agree,
  deep_stays,
  placed_stays,
  made_stays,
  made_readable,
  beside_new,
  frame_more,
  places_then,
  places_refused,
  places_one,
  one_apart,
  makes_none,
  makes_one,
  makes_refused,
  one_refused,
}
pub use Rattle.arena_kinds.proofs.BoxLemmas.{makes_box}
