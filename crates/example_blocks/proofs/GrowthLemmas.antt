-- A block that is placed, or grows, and is then written.
use Rattle.std.proofs.Common.{◌≡◌, ℕ, ◌≤◌, min, sym, subst, List}
use Rattle.arena_chunks.specs.Source.{View, Source, view}
use Rattle.arena_chunks.specs.Answers.Answer.{Placed}
use Rattle.arena_chunks.specs.BlockCalls.{PlacesBlock, GrowsBlock, WritesBlock}
use Rattle.arena_store.specs.declared.block.Block.{Block}
use Rattle.arena_chunks.proofs.Layers.{places_written, resizes_written}

-- A growth followed by a write after the bytes that it kept is a growth.
pub grows_written : (old mid new : View) (block b : Block) (size align at : ℕ) (list : List ℕ)
    → GrowsBlock old mid block size align (Placed b) → WritesBlock mid.memory new.memory b at list → new.source ≡ mid.source
    → min block.size size ≤ at
    → GrowsBlock old new block size align (Placed b)
grows_written old mid new block b size align at list grows writes source behind =
    subst (λ (s : Source). GrowsBlock old (view new.memory s) block size align (Placed b)) (sym source)
    (resizes_written _ _ _ _ _ _ block size align b at list grows writes behind)

-- A placement followed by a write is a placement.
pub place_written : (old mid new : View) (b : Block) (size align at : ℕ) (list : List ℕ)
    → PlacesBlock old mid size align (Placed b) → WritesBlock mid.memory new.memory b at list → new.source ≡ mid.source
    → PlacesBlock old new size align (Placed b)
place_written old mid new b size align at list places writes source =
    subst (λ (s : Source). PlacesBlock old (view new.memory s) size align (Placed b)) (sym source)
    (places_written _ _ _ _ _ size align b at list places writes)
