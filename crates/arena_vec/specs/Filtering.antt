-- A vector of which a test picks the values to remove.
use Rattle.std.specs.Prelude.{◌≡◌, ◌-◌, ◌*◌, ◌^◌, ◌≤◌, List, [], ◌∷◌, ◌++◌, drop, Option, Bool, not}
use Rattle.std.specs.List.Retain.{ExtractsNext}
use Rattle.arena_chunks.specs.Frame.{Frame}
use Rattle.arena_items.specs.Values.{elements, bytes_of}
use Rattle.arena_items.specs.declared.item.Item.{Ghosts}
use Rattle.arena_items.specs.Room.{SamePlaces}
use Rattle.arena_vec.specs.Vecs.{IsVecIn}
use Rattle.arena_vec.specs.declared.drain_filter.DrainFilter.{DrainFilter}

-- the values that weren't tested, and those that were and stay
abbrev pub untested : {T S F : Type 0} → Ghosts T → DrainFilter T S F → List T
untested item d = elements item.SIZE item.decoded (d.vec.now.raw.len - d.front)
    (drop (d.front * item.SIZE) (bytes_of d.arena.now.memory d.vec.now.raw.block))

abbrev pub stayed : {T S F : Type 0} → Ghosts T → DrainFilter T S F → List T
stayed item d = elements item.SIZE item.decoded d.kept (bytes_of d.arena.now.memory d.vec.now.raw.block)

-- the vector is held, the values that stay come before those that weren't tested, and the test can be called at these
pub record IsFilter {T S F : Type 0} (item : Ghosts T) (can : List T → F → Type 0) (d : DrainFilter T S F) : Type 0 where
  pub small : item.SIZE ≤ 2 ^ 24
  pub held : IsVecIn item d.arena.now.memory d.vec.now
  pub order : d.kept ≤ d.front
  pub within : d.front ≤ d.vec.now.raw.len
  pub callable : can (untested item d) d.pred

-- One call of next: the test saw the values in turn, up to the first that it picked.
pub record Filters {T S F : Type 0} (item : Ghosts T) (can : List T → F → Type 0) (R : F → T → Bool → F → T → Type 0)
    (d : DrainFilter T S F) (r : Option T) (e : DrainFilter T S F) : Type 0 where
  pub kept : List T
  pub extracts : ExtractsNext R d.pred (untested item d) r e.pred kept (untested item e)
  pub stays : stayed item e ≡ stayed item d ++ kept
  pub same_vec : e.vec.ghost_name ≡ d.vec.ghost_name
  pub same_arena : e.arena.ghost_name ≡ d.arena.ghost_name
  pub vec : e.vec.now ≡ d.vec.now
  pub places : SamePlaces d.arena.now e.arena.now
  pub frame : Frame d.arena.now.memory e.arena.now.memory (d.vec.now.raw.block ∷ [])
      (d.vec.now.raw.block ∷ [])
  pub filters : IsFilter item can e

-- a value stays if the test doesn't pick it
abbrev pub Stays : {F T : Type 0} → (F → T → Bool → F → T → Type 0) → F → T → Bool → F → T → Type 0
Stays R f x b g y = R f x (not b) g y
