-- A chain of three boxes: the first holds the handle of the second, and the second that of the third.
use Rattle.std.specs.Prelude.{ℕ, List, [], ◌∷◌}
use Rattle.arena_chunks.specs.Memory.{Memory}
use Rattle.arena_chunks.specs.Frame.{ArePairwiseApart}
use Rattle.arena_store.specs.declared.block.Block.{Block}
use Rattle.arena_items.specs.declared.item.Item.{Ghosts}
use Rattle.arena_items.specs.declared.boxes.Box.{Box}
use Rattle.arena_items.specs.Values.{IsBoxIn, box_value}
use Rattle.example_blocks.specs.declared.linked.Chain.{Chain}

-- the values of the second box, and of the first
abbrev pub Second : Type 0
Second = ℕ × Box ℕ

abbrev pub First : Type 0
First = ℕ × Box Second

-- the second box, and the third
abbrev pub second : Ghosts First → Memory → Chain → Box Second
second outer memory c = (box_value outer memory c.first).1

abbrev pub third : Ghosts First → Ghosts Second → Memory → Chain → Box ℕ
third outer inner memory c = (box_value inner memory (second outer memory c)).1

-- its numbers
abbrev pub numbers : Ghosts First → Ghosts Second → Ghosts ℕ → Memory → Chain → List ℕ
numbers outer inner number memory c = (box_value outer memory c.first).0
    ∷ (box_value inner memory (second outer memory c)).0
    ∷ box_value number memory (third outer inner memory c)
    ∷ []

-- the blocks of its boxes
abbrev pub blocks : Ghosts First → Ghosts Second → Memory → Chain → List Block
blocks outer inner memory c = c.first.block ∷ (second outer memory c).block ∷ (third outer inner memory c).block ∷ []

-- Each of its boxes is held, and their blocks are pairwise disjoint.
pub record IsChain (outer : Ghosts First) (inner : Ghosts Second) (number : Ghosts ℕ) (memory : Memory) (c : Chain) : Type 0 where
  pub first : IsBoxIn outer memory c.first
  pub second : IsBoxIn inner memory (second outer memory c)
  pub third : IsBoxIn number memory (third outer inner memory c)
  pub apart : ArePairwiseApart (blocks outer inner memory c)
