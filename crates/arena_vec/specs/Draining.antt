-- A range of a vector that is drained.
use Rattle.std.specs.Prelude.{◌≡◌, ◌-◌, ◌*◌, ◌^◌, ◌≤◌, List, drop}
use Rattle.arena_items.specs.Values.{elements, bytes_of}
use Rattle.arena_items.specs.declared.item.Item.{Ghosts}
use Rattle.arena_vec.specs.Vecs.{IsVecIn}
use Rattle.arena_vec.specs.declared.drain.Drain.{Drain}

-- the vector is held, and the range and what is left of it are within its list
pub record IsDrain {T S : Type 0} (item : Ghosts T) (d : Drain T S) : Type 0 where
  pub small : item.SIZE ≤ 2 ^ 24
  pub held : IsVecIn item d.arena.now.memory d.vec.now
  pub front : d.front ≤ d.back
  pub back : d.back ≤ d.vec.now.raw.len
  pub order : d.start ≤ d.end
  pub within : d.end ≤ d.vec.now.raw.len

-- what is left of the range
abbrev pub left : {T S : Type 0} → Ghosts T → Drain T S → List T
left item d = elements item.SIZE item.decoded (d.back - d.front)
    (drop (d.front * item.SIZE) (bytes_of d.arena.now.memory d.vec.now.raw.block))

-- the same range of the same vector, which nothing changed
pub record SameDrain {T S : Type 0} (item : Ghosts T) (d e : Drain T S) : Type 0 where
  pub drains : IsDrain item e
  pub same_vec : e.vec.ghost_name ≡ d.vec.ghost_name
  pub same_arena : e.arena.ghost_name ≡ d.arena.ghost_name
  pub vec : e.vec.now ≡ d.vec.now
  pub arena : e.arena.now ≡ d.arena.now
  pub start : e.start ≡ d.start
  pub end : e.end ≡ d.end
