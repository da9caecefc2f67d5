-- Where the sources of copies are, and what stays there while the copies are made.
use Rattle.std.specs.Prelude.{◌≡◌, List, [], IsTrue}
use Rattle.std.specs.List.{AllByRecursion}
use Rattle.arena_chunks.specs.Memory.{Memory, is_readable}
use Rattle.arena_chunks.specs.Frame.{Frame, IsApart}
use Rattle.arena_store.specs.declared.block.Block.{Block}
use Rattle.arena_chunks.proofs.Layers.{frame_keeps}
use Rattle.arena_items.specs.Values.{bytes_of}
use Rattle.std.proofs.Common.{refl, sym}

-- A block is readable, has the bytes that it had, and is unaffected by calls on the blocks that the call has then.
pub record IsKept (old new : Memory) (is_beside : Type 0) (b : Block) : Type 0 where
  pub readable : IsTrue (is_readable new.state b)
  pub bytes : bytes_of old b ≡ bytes_of new b
  pub beside : is_beside

-- The memory of the sources, as a function of that of the copies' arena. A call on blocks of that arena keeps each
-- source block that is unaffected by them; each is unaffected by a call on none.
pub record IsOrigin (there : Memory → Memory) (is_beside : Block → List Block → Type 0) : Type 0 where
  pub none : (b : Block) → is_beside b []
  pub kept : (old new : Memory) (before after : List Block) (b : Block) → Frame old new before after
      → IsTrue (is_readable (there old).state b) → is_beside b before → IsKept (there old) (there new) (is_beside b after) b

-- each of some blocks is unaffected by calls on others
abbrev pub AreBeside : (Block → List Block → Type 0) → List Block → List Block → Type 0
AreBeside is_beside bs others = AllByRecursion (λ (b : Block). is_beside b others) bs

-- In another arena each block is unaffected by calls on those of the copies' arena,
pub elsewhere : (m : Memory) → IsOrigin (λ _. m) (λ b others. Unit {0})
elsewhere m = record {
  none = λ b. tt;
  kept = λ old new before after b frame readable beside. record { readable = readable; bytes = refl; beside = tt };
}

-- and in the same arena each that is apart from them.
pub in_place : IsOrigin (λ m. m) (λ b others. IsApart b.addr b.size others)
in_place = record {
  none = λ b. tt;
  kept = λ old new before after b frame readable apart.
      let stays = frame_keeps old new before after b frame readable apart in
      record { readable = stays.readable; bytes = sym stays.bytes; beside = stays.apart };
}
