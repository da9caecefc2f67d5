-- Maps in an arena of their own.
use Rattle.std.specs.Prelude.{◌^◌, ◌≤◌, IsTrue}
use Rattle.arena_rules.specs.State.{State}
use Rattle.arena_chunks.specs.Memory.{Memory, is_readable}
use Rattle.arena_chunks.specs.Frame.{AreBlocksApart}
use Rattle.arena_store.specs.declared.block.Block.{Block}
use Rattle.arena_hash.specs.Contents.{Key, Kind}
use Rattle.arena_hash.specs.Maps.{IsMapIn}
use Rattle.arena_hash.specs.declared.map.HashMap.{HashMap}

-- A map that is held, whose keys and values have sizes that the calls accept.
pub record IsKept {K V S : Type 0} (k : Kind K V S) (memory : Memory) (m : HashMap K V S) : Type 0 where
  pub keys_small : k.keys.SIZE ≤ 2 ^ 24
  pub values_small : k.values.SIZE ≤ 2 ^ 24
  pub held : IsMapIn k memory m

-- No key has a text, so a key's content needs no readable block, and no block has to be disjoint from it.
pub record ArePlain {K : Type 0} (key : Key K) : Type 0 where
  pub readable : (state : State) (x : K) → IsTrue (is_readable state (key.text x))
  pub apart : (x : K) (b : Block) → AreBlocksApart (key.text x) b
