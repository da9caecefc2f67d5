-- Copies of the pairs of a map, put into another.
use Rattle.std.specs.Prelude.{◌≡◌, ◌+◌, ◌≤◌, List, length, map, Result, IfOk}
use Rattle.arena_chunks.specs.Memory.{Memory}
use Rattle.arena_chunks.specs.Source.{View}
use Rattle.arena_hash.specs.Accounts.{spare_of}
use Rattle.arena_hash.specs.Contents.{content_in}
use Rattle.arena_hash.specs.Contents.{Kind as MapTypes}
use Rattle.arena_hash.specs.Finite.{first_of}
use Rattle.arena_hash.specs.Maps.{IsMapIn, map_in}
use Rattle.arena_hash.specs.declared.map.HashMap.{HashMap}
use Rattle.arena_items.specs.declared.room.AllocError.{AllocError}
use Rattle.arena_clone.specs.Kinds.{Kind}
use Rattle.arena_clone.specs.MapKind.{pair_of}
use Rattle.arena_clone.specs.Rows.{CopiesRow}
use Rattle.arena_kinds.specs.declared.ids.CloneInSemanticIds.{CloneInSemanticIds}

-- The map of copies of these pairs, in the table of a map that was empty.
pub record HoldsCopies {K V S : Type 0} (k : MapTypes K V S) (source new : Memory) (m : HashMap K V S) (xs ys : List (K × V))
    (w : HashMap K V S) : Type 0 where
  pub held : IsMapIn k new w
  pub map_is : map_in k new w ≡ first_of (content_in k.key new) ys
  pub contents : map (λ (p : K × V). content_in k.key new p.0) ys ≡ map (λ (p : K × V). content_in k.key source p.0) xs
  pub len : w.len ≡ length xs
  pub room : spare_of m ≤ spare_of w + length xs
  pub block : w.table.block ≡ m.table.block
  pub hasher : w.hasher ≡ m.hasher

-- Copies of pairs were put into an empty map, or one was refused.
pub record PutsCopies {K V S : Type 0} (k : MapTypes K V S) (keys : Kind K) (values : Kind V) (ids : CloneInSemanticIds) (source : Memory)
    (old new : View) (m : HashMap K V S) (xs : List (K × V)) (result : Result (HashMap K V S) AllocError) : Type 0 where
  pub ys : List (K × V)
  pub row : CopiesRow {X = HashMap K V S} (pair_of keys values) ids source old new m.table.block xs ys result
  pub map : IfOk result (HoldsCopies k source new.memory m xs ys)
