-- Texts as lists of bytes.
use Rattle.std.specs.Prelude.{ℕ, ◌≤◌, List, take}
use Rattle.arena_chunks.specs.Memory.{Memory}
use Rattle.arena_store.specs.declared.block.Block.{Block}
use Rattle.arena_items.specs.Values.{IsHeld, bytes_of}
use Rattle.arena_text.specs.declared.text.StringBuilder.{StringBuilder}

-- The handle is well formed: its block has its capacity and is readable, and its length is at most its capacity.
pub record IsBuilderIn (m : Memory) (t : StringBuilder) : Type 0 where
  pub place : IsHeld t.cap 1 m.state t.block
  pub within : t.len ≤ t.cap

-- the text's bytes: the first ones of its block
abbrev pub builder_bytes : Memory → StringBuilder → List ℕ
builder_bytes m t = take t.len (bytes_of m t.block)

-- the block of a text without room
abbrev pub no_block : Block
no_block = record { generation = 0; addr = 1; size = 0; align = 1 }
