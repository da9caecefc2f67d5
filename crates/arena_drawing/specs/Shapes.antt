-- What a picture shows, and where.
use Rattle.std.specs.Prelude.{◌≡◌, ℕ, ◌+◌, ◌-◌, ◌≤◌, Bool, ◌&&◌, nat_le, if◌then◌else◌, List, [], ◌∷◌, ◌++◌, map, length}
use Rattle.std.specs.List.{flat_map}
use Rattle.arena_store.specs.declared.block.Block.{Block}
use Rattle.arena_core.specs.declared.iter.Chunk as arena
use Rattle.arena_drawing.specs.declared.shapes.Shape as shape

-- The chunk has all addresses of the block. Where it has none, its address may be the data end.
abbrev pub has_block : arena.Chunk → Block → Bool
has_block chunk block = nat_le chunk.base block.addr && nat_le (block.addr + block.size) (chunk.base + chunk.size)

-- Row and x of a block: the row of the first chunk that has it, and its distance from that chunk's base. Where no chunk
-- has it, which is so of empty blocks alone, that is the left end of the row below all chunks.
abbrev pub place_from : ℕ → List arena.Chunk → Block → ℕ × ℕ
place_from row [] block = (row, 0)
place_from row (chunk ∷ older) block =
    if has_block chunk block then (row, block.addr - chunk.base) else place_from (row + 1) older block

-- each chunk in a row of its own
abbrev pub chunk_shapes : ℕ → List arena.Chunk → List shape.Shape
chunk_shapes row [] = []
chunk_shapes row (chunk ∷ older) = shape.TheVariants.Chunk row chunk ∷ chunk_shapes (row + 1) older

abbrev pub block_shape : List arena.Chunk → ℕ × Block → shape.Shape
block_shape chunks held =
    let place = place_from 0 chunks held.1 in shape.TheVariants.Block place.0 place.1 held.0 held.1

-- the chunks, and on them the blocks that names hold
abbrev pub shapes_of : List arena.Chunk → List (ℕ × Block) → List shape.Shape
shapes_of chunks held = chunk_shapes 0 chunks ++ map (block_shape chunks) held

-- the blocks that are shown, with their names
abbrev pub shown_block : shape.Shape → List (ℕ × Block)
shown_block (shape.TheVariants.Chunk row chunk) = []
shown_block (shape.TheVariants.Block row x name block) = (name, block) ∷ []

abbrev pub shown_blocks : List shape.Shape → List (ℕ × Block)
shown_blocks shapes = flat_map shown_block shapes

-- A block with bytes is in the used part of a chunk, as far from its base as the place says, in the chunk's row.
pub record StandsIn (first : ℕ) (chunks : List arena.Chunk) (block : Block) (place : ℕ × ℕ) : Type 0 where
  pub newer : List arena.Chunk
  pub chunk : arena.Chunk
  pub older : List arena.Chunk
  pub split : chunks ≡ newer ++ chunk ∷ older
  pub row : place.0 ≡ first + length newer
  pub begins : chunk.base + place.1 ≡ block.addr
  pub ends : place.1 + block.size ≤ chunk.size
  pub used : chunk.cursor ≤ block.addr
