-- Blocks whose bytes mean something.
use Rattle.std.specs.Prelude.{◌≡◌, List, IsTrue}
use Rattle.std.specs.List.{AllByRecursion}
use Rattle.arena_rules.specs.State.{State}
use Rattle.arena_chunks.specs.Memory.{Memory, is_readable}
use Rattle.arena_store.specs.declared.block.Block.{Block}
use Rattle.arena_items.specs.Values.{bytes_of}

-- each of the blocks is readable
abbrev pub AreReadable : State → List Block → Type 0
AreReadable state blocks = AllByRecursion (λ (b : Block). IsTrue (is_readable state b)) blocks

-- two arenas have the same bytes in each of these blocks
abbrev pub Agree : Memory → Memory → List Block → Type 0
Agree a c blocks = AllByRecursion (λ (b : Block). bytes_of a b ≡ bytes_of c b) blocks
