-- The lemmas that a layer above cites: how frames compose, which blocks are apart, the bytes of a block after a call,
-- how many bytes calls bring into use, and what they ask for.
pub use Rattle.arena_core.proofs.FrameRules.{blocks_turned, apart_within, apart_empty, apart_both, apart_each, all_apart, pairwise_both}
pub use Rattle.arena_core.proofs.FrameRules.{
  frame_reflexive,
  frame_then,
  frame_weaken,
  frame_forget,
  frame_beside,
  frame_behind,
  frame_both,
  empty_before,
  empty_after,
  frame_keeps,
  frame_keeps_all,
  in_use,
}
pub use Rattle.arena_chunks.proofs.ApartLemmas.{all_from_none, all_from_both, all_of_both, all_among, all_each}
pub use Rattle.arena_chunks.proofs.MeasureLemmas.{readable_together}
pub use Rattle.arena_chunks.proofs.AskingLemmas.{
  asks_same,
  asks_placed,
  asks_resized,
  asks_given_back,
  placed_starved,
  placed_starved_any,
  grown_starved,
  shrunk_starved,
  placed_full,
  grown_full,
  shrunk_full,
  grown_used,
}
pub use Rattle.arena_store.proofs.BytesLemmas.{length-bytes, no_bytes}
pub use Rattle.arena_core.proofs.RewindLemmas.{went_back}
pub use Rattle.arena_chunks.proofs.CheckpointLemmas.{
  checkpoint_own,
  checkpoint_placed,
  checkpoint_resized,
  checkpoint_returned,
  checkpoint_written,
}
pub use Rattle.arena_core.proofs.WrittenLemmas.{bytes_same, bytes_within, take_bytes}
pub use Rattle.arena_core.proofs.BlockCallLemmas.{
  places_written,
  resizes_written,
  writes_block,
  edits_to,
  edits_by,
  wrote,
  wrote_first,
  wrote_after,
}
pub use Rattle.arena_core.proofs.LayerLemmas.{
  readable_low,
  readable_high,
  readable_size,
  readable_used,
  unused_unreadable,
  frame_keeps_new,
  frame_keeps_beside,
}
pub use Rattle.arena_core.proofs.LayerLemmas.{
  placed_apart,
  placed_pairwise,
  shrunk_placed,
  returned_bytes,
  returned_plain,
}
pub use Rattle.arena_core.proofs.LayerLemmas.{wrote_part, wrote_whole, wrote_behind, wrote_readable, writes_more, writes_nothing}
pub use Rattle.arena_chunks.proofs.UsedByCallLemmas.{
  placed_least,
  placed_most,
  placed_exact,
  grown_least,
  grown_most,
  grown_exact,
  shrunk_used,
  stays_used,
  anew_least,
  anew_most,
}
pub use Rattle.arena_chunks.proofs.UsedByCallLemmas.{
  returned_used,
  returned_size,
  returned_elsewhere,
  reset_keeps_bytes,
  placed_doubling,
  resized_doubling,
  returned_doubling,
}

-- for automatic proof: readable blocks, frames, and the bytes of blocks
pub ruleset readable_laws = (in_use, readable_low, readable_high, readable_size, unused_unreadable, readable_together)

pub ruleset layer_laws = (
  frame_then,
  frame_keeps_new,
  frame_keeps_beside,
  length-bytes,
  take_bytes,
  places_written,
  resizes_written,
  wrote_whole,
  wrote_behind,
  writes_more,
)
