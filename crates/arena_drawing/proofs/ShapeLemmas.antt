-- What is shown of the blocks that names hold.
use Rattle.std.proofs.Common.{◌≡◌, ℕ, ◌+◌, ◌≤◌, List, [], ◌∷◌, ◌++◌, length, map, take, drop, take_all, refl, ap, sym, ◌∙◌}
use Rattle.std.proofs.lemmas.Grind.{flat_map-append}
use Rattle.std.proofs.lemmas.List.{append-nil, drop_all}
use Rattle.arena_store.specs.declared.block.Block.{Block}
use Rattle.arena_core.specs.declared.iter.Chunk.{Chunk}
use Rattle.arena_drawing.specs.declared.shapes.Shape.{Shape}
use Rattle.arena_drawing.specs.Shapes.{chunk_shapes, block_shape, shapes_of, shown_block, shown_blocks}

-- chunks show no block, and the others show each its own
none_shown : (row : ℕ) (chunks : List Chunk) → shown_blocks (chunk_shapes row chunks) ≡ []
none_shown row [] = refl
none_shown row (chunk ∷ older) = none_shown (row + 1) older

each_shown : (chunks : List Chunk) (held : List (ℕ × Block)) → shown_blocks (map (block_shape chunks) held) ≡ held
each_shown chunks [] = refl
each_shown chunks (h ∷ held) = ap (λ rest. h ∷ rest) (each_shown chunks held)

pub all_shown : (chunks : List Chunk) (held : List (ℕ × Block)) (all : List Shape) → all ≡ shapes_of chunks held → shown_blocks all ≡ held
all_shown chunks held all are = ap shown_blocks are
    ∙ flat_map-append shown_block (chunk_shapes 0 chunks) (map (block_shape chunks) held)
    ∙ ap (λ xs. xs ++ shown_blocks (map (block_shape chunks) held)) (none_shown 0 chunks) ∙ each_shown chunks held
