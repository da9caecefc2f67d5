-- Handles of one of several kinds, and what they mean.
use Rattle.std.proofs.Common.{ℕ, ◌⊎◌, inl, inr, List, [], ◌∷◌}
use Rattle.arena_chunks.specs.Memory.{Memory}
use Rattle.arena_store.specs.declared.block.Block.{Block}
use Rattle.arena_items.specs.declared.item.Item.{Ghosts}
use Rattle.arena_items.specs.Values.{IsBoxIn, box_value, IsSliceIn, slice_list, IsTextIn, text_bytes}
use Rattle.example_blocks.specs.declared.objects.Object.{Object}
use Rattle.example_blocks.specs.declared.objects.Object.TheVariants.{Number, Titled}

-- the blocks to which an object refers
abbrev pub blocks : Object → List Block
blocks (Number of) = of.block ∷ []
blocks (Titled title of) = title.block ∷ of.block ∷ []

-- Its handles are held,
abbrev pub is_object : Ghosts ℕ → Memory → Object → Type 0
is_object number m (Number of) = IsBoxIn number m of
is_object number m (Titled title of) = IsTextIn m title × IsSliceIn number m of

-- and it means a number, or a title and numbers.
abbrev pub meaning : Ghosts ℕ → Memory → Object → ℕ ⊎ (List ℕ × List ℕ)
meaning number m (Number of) = inl (box_value number m of)
meaning number m (Titled title of) = inr (text_bytes m title, slice_list number m of)
