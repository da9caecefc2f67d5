-- The lemmas that crates above cite: what calls leave of values at every depth, and values that are made of parts.
pub use Rattle.arena_kinds.proofs.Layers.{same_places, same_asked, asked_then, asked_refused, asked_same}
pub use Rattle.arena_kinds.proofs.Layers.{
  deep_agree,
  deep_stays,
  made_stays,
  made_readable,
  apart_of_none,
  beside_new,
  frame_more,
  places_then,
  places_refused,
  makes_none,
  makes_one,
  makes_refused,
  makes_box,
}
pub use Rattle.arena_kinds.proofs.Layers.{all_turned}
pub use Rattle.arena_clone.proofs.OriginLemmas.{placed_held, placed_copied}
pub use Rattle.arena_clone.proofs.BothLemmas.{makes_both, second_refused}
