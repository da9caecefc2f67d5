-- What the handles of values need of an arena, and what they mean there.
use Rattle.std.specs.Prelude.{◌≡◌, ℕ, zero, suc, ◌*◌, List, [], ◌∷◌, take, drop, IsTrue}
use Rattle.arena_rules.specs.State.{State}
use Rattle.arena_chunks.specs.Memory.{Memory, image, is_readable, bytes_from}
use Rattle.arena_store.specs.declared.block.Block.{Block}
use Rattle.arena_chunks.specs.declared.allocator.text.Str.{Str}
use Rattle.arena_items.specs.declared.item.Item.{Ghosts}
use Rattle.arena_items.specs.declared.boxes.Box.{Box}
use Rattle.arena_items.specs.declared.slices.BoxSlice.{BoxSlice}

-- the bytes of a block
abbrev pub bytes_of : Memory → Block → List ℕ
bytes_of memory b = bytes_from (image memory) b.addr b.size

-- The block has this size and this alignment, and is readable. An empty block is readable in every arena.
pub record IsHeld (size align : ℕ) (state : State) (b : Block) : Type 0 where
  pub readable : IsTrue (is_readable state b)
  pub of_size : b.size ≡ size
  pub of_align : b.align ≡ align

-- the first n values of `size` bytes each
unfoldable pub elements : {T : Type 0} → ℕ → (List ℕ → T) → ℕ → List ℕ → List T
elements size decoded zero bytes = []
elements size decoded (suc n) bytes = decoded (take size bytes) ∷ elements size decoded n (drop size bytes)

-- A box is well formed and readable; and the value that it means.
abbrev pub IsBoxIn : {T : Type 0} → Ghosts T → Memory → Box T → Type 0
IsBoxIn item memory b = IsHeld item.SIZE item.ALIGN memory.state b.block

abbrev pub box_value : {T : Type 0} → Ghosts T → Memory → Box T → T
box_value item memory b = item.decoded (bytes_of memory b.block)

-- A boxed slice is well formed and readable; and the list that it means.
abbrev pub IsSliceIn : {T : Type 0} → Ghosts T → Memory → BoxSlice T → Type 0
IsSliceIn item memory s = IsHeld (s.length * item.SIZE) item.ALIGN memory.state s.block

abbrev pub slice_list : {T : Type 0} → Ghosts T → Memory → BoxSlice T → List T
slice_list item memory s = elements item.SIZE item.decoded s.length (bytes_of memory s.block)

-- A text is readable; and its bytes.
abbrev pub IsTextIn : Memory → Str → Type 0
IsTextIn memory s = IsTrue (is_readable memory.state s.block)

abbrev pub text_bytes : Memory → Str → List ℕ
text_bytes memory s = bytes_of memory s.block
