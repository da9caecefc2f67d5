-- The lemmas that crates above cite: calls that make room, one after another, and a range that is drained.
use Rattle.std.proofs.Common.{◌≡◌, ℕ, List, take, refl, ◌∙◌, Ok, Err}
use Rattle.arena_chunks.specs.Source.{View}
use Rattle.arena_items.specs.declared.item.Item.{Ghosts}
use Rattle.arena_vec.specs.Changes.{Grows}
use Rattle.arena_vec.specs.Draining.{SameDrain}
use Rattle.arena_items.specs.Room.{SamePlaces}
use Rattle.raw_vec.specs.Rows.{window}
use Rattle.arena_items.specs.declared.room.Growth.{Growth}
use Rattle.arena_items.specs.declared.room.Growth.TheVariants.{Stays}
use Rattle.arena_items.specs.declared.room.AllocError.{AllocError}
use Rattle.arena_vec.specs.declared.drain.Drain.{Drain}
use Rattle.arena_vec.specs.declared.vec.Vec.{Vec}
pub use Rattle.arena_items.proofs.Layers.{length-elements, same_then, room_then, room_refused}
pub use Rattle.raw_vec.proofs.Windows.{window-whole, first_left}

-- ---- If there is room

module _ {X T : Type 0} (item : Ghosts T) (old new : View) (v w : Vec T) (growth : Growth) (list : List T) (stays : growth ≡ Stays) where
  -- no cursor moves, and the block stays;
  pub places_stay : (x : X) → Grows item old new v growth list w (Ok x) → SamePlaces old new
  places_stay x grows = (rw stays at grows.made).1

  pub block_stays : (x : X) → Grows item old new v growth list w (Ok x) → w.raw.block ≡ v.raw.block
  block_stays x grows = (rw stays at grows.made).0

  -- so does the capacity,
  pub cap_stays : (x : X) → Grows item old new v growth list w (Ok x) → w.raw.cap ≡ v.raw.cap
  cap_stays x grows = rw stays at grows.cap

  -- and nothing is refused.
  pub not_refused : (e : AllocError) → Grows {X = X} item old new v growth list w (Err e) → ⊥
  not_refused e grows = (rw stays at grows.made).0

-- ---- A range that is drained

-- one call of next after others
pub drain_then : {T S : Type 0} (item : Ghosts T) (d e f : Drain T S) → SameDrain item d e → SameDrain item e f → SameDrain item d f
drain_then item d e f one two = record {
  drains = two.drains;
  same_vec = two.same_vec ∙ one.same_vec;
  same_arena = two.same_arena ∙ one.same_arena;
  vec = two.vec ∙ one.vec;
  arena = two.arena ∙ one.arena;
  start = two.start ∙ one.start;
  end = two.end ∙ one.end;
}

-- a range from the front
pub window-front : {T : Type 0} (xs : List T) (n : ℕ) → window xs 0 n ≡ take n xs
unfolding window
window-front xs n = refl
