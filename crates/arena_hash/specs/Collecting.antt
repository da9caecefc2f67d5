-- Maps of an iterator's pairs.
use Rattle.std.specs.Prelude.{◌≡◌, ◌+◌, ◌*◌, ◌≤◌, List, [], ◌∷◌, length, Option, Some, Ok, Err}
use Rattle.std.specs.Iterator.{Yields, Drains}
use Rattle.arena_chunks.specs.Source.{View}
use Rattle.arena_items.specs.declared.room.AllocError.{AllocError}
use Rattle.hash_ring.specs.Finite.{empty, with_all}
use Rattle.arena_table.specs.Contents.{Kind, content_in}
use Rattle.arena_hash.specs.Accounts.{unit_of, credit_of, used}
use Rattle.arena_hash.specs.Changes.{IsNew, Puts, is_value}
use Rattle.arena_hash.specs.Maps.{map_in}
use Rattle.arena_hash.specs.declared.map.HashMap.{HashMap}

-- These pairs were inserted one after another.
abbrev pub PutsAll : {K V S : Type 0} → Kind K V S → View → HashMap K V S → List (K × V) → View → HashMap K V S → Type 0
PutsAll k old m [] new w = (new ≡ old) × (w ≡ m)
PutsAll {K} {V} {S} k old m (p ∷ ps) new w =
    (mid : View) × (u : HashMap K V S) × (before : Option V) × Puts k old mid m p.0 p.1 is_value u (Ok before)
    × PutsAll k mid u ps new w

-- All pairs of an iterator were inserted into a new map: it is the map of them, by their contents before the call, and
-- each took at most two units.
pub record CollectsAll {K V S I : Type 0} (k : Kind K V S) (steps : I → Option (K × V) → I → Type 0) (iter : I) (old new : View)
    (m : HashMap K V S) : Type 0 where
  pub pairs : List (K × V)
  pub drains : Drains steps iter pairs
  pub map_is : map_in k new.memory m ≡ with_all (content_in k.key old.memory) empty pairs
  pub bytes : used new + credit_of k m ≤ used old + 2 * unit_of k * length pairs
  pub first : HashMap K V S
  pub is_new : IsNew k first.hasher first
  pub puts : PutsAll k old first pairs new m

-- Some pairs were inserted into a new map, and one more was refused. What was placed stays: at most two units for each
-- pair inserted.
pub record CollectsSome {K V S I : Type 0} (k : Kind K V S) (steps : I → Option (K × V) → I → Type 0) (iter : I) (old new : View)
    (e : AllocError) : Type 0 where
  pub pairs : List (K × V)
  pub now : I
  pub yields : Yields steps iter pairs now
  pub bytes : used new ≤ used old + 2 * unit_of k * length pairs
  pub first : HashMap K V S
  pub is_new : IsNew k first.hasher first
  pub between : View
  pub map : HashMap K V S
  pub puts : PutsAll k old first pairs between map
  pub last : K × V
  pub rest : I
  pub step : steps now (Some last) rest
  pub refused : Puts {X = Option V} k between new map last.0 last.1 is_value map (Err e)
