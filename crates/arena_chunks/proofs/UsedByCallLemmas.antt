-- How many bytes the calls on blocks bring into use, and how chunks grow by them.
use Rattle.std.proofs.lemmas.Bool.Decides.{nat_tests}
use Rattle.std.proofs.Common.{◌≡◌, ℕ, ◌+◌, ◌-◌, ◌%◌, ◌≤◌, false, Option, Some, None, ap, refl, sym, subst, ◌∙◌, arith, IsTrue}
use Rattle.std.specs.Prelude.{◌≢◌}
use Rattle.arena_rules.specs.Rounding.{is_layout}
use Rattle.arena_rules.specs.State.{State, IsValid, cursor_of, used_bytes, allocated_bytes}
use Rattle.arena_rules.specs.Search.{place}
use Rattle.arena_rules.specs.Moves.{Resizing, dealloc, grow, shrink, reset}
use Rattle.arena_rules.specs.Moves.Resizing.{Moves, Anew, Stays}
use Rattle.arena_rules.specs.Blocks.{padded_size}
use Rattle.arena_rules.specs.Used.{unit_of}
use Rattle.arena_rules.specs.Doubling.{IsDoubling, is_made_first, is_resize_made_first}
use Rattle.arena_rules.proofs.RoundingLemmas.{layout_power}
use Rattle.arena_rules.proofs.UsedBytesLemmas.{alloc_least, alloc_most, alloc_exact, alloc_exact_in_new}
use Rattle.arena_rules.proofs.UsedResizeLemmas.{grow_used, growth_least, growth_most, growth_exact, shrink_used, resize_stays, dealloc_used, dealloc_used_elsewhere, padded_exact}
use Rattle.arena_rules.proofs.DoublingLemmas.{alloc_doubling, resize_doubling, dealloc_doubling}
use Rattle.arena_rules.proofs.ResetLemmas.{reset_allocated, reset_used}
use Rattle.arena_rules.proofs.AskedSizeLemmas.{one_chunk}
use Rattle.arena_store.specs.Memory.{Memory, is_readable}
use Rattle.arena_store.specs.Source.{View}
use Rattle.arena_core.specs.Answers.Answer.{Placed}
use Rattle.arena_core.specs.BlockCalls.{place_of, PlacesBlock, PlacesAfter, ResizesBlock, ResizesAfter, GrowsBlock, ShrinksBlock, GivesBack, growing_of, shrinking_of}
use Rattle.arena_store.specs.declared.block.Block.{Block}
use Rattle.arena_core.proofs.LayerLemmas.{readable_used}

-- ---- A new block

-- It brings its size into use.
pub placed_least : (old new : View) (size align : ℕ) (b : Block) → IsTrue (is_layout size align) → PlacesBlock old new size align (Placed b)
    → used_bytes old.memory.state + size ≤ used_bytes new.memory.state
placed_least old new size align b layout places = grind (arith, nat_tests, alloc_least, layout_power)

-- It brings less than a unit more.
pub placed_most : (old new : View) (size align : ℕ) (b : Block) → IsTrue (is_layout size align) → PlacesBlock old new size align (Placed b)
    → used_bytes new.memory.state ≤ used_bytes old.memory.state + size + (unit_of old.memory.state align - 1)
placed_most old new size align b layout places = grind (arith, nat_tests, alloc_most, layout_power)

-- Whole units below a cursor at a multiple of the unit bring exactly their size, up to alignment 16.
pub placed_exact : (old new : View) (size align : ℕ) (b : Block) → IsTrue (is_layout size align) → align ≤ 16
    → size % unit_of old.memory.state align ≡ 0
    → cursor_of old.memory.state.chunks % unit_of old.memory.state align ≡ 0 → PlacesBlock old new size align (Placed b)
    → used_bytes new.memory.state ≡ used_bytes old.memory.state + size
placed_exact old new size align b layout small by below places = go (place old.memory.state size align) refl
  where
    go : (spot : Option ℕ) → place old.memory.state size align ≡ spot → used_bytes new.memory.state ≡ used_bytes old.memory.state + size
    go (Some p) found =
        alloc_exact old.memory.state new.memory.state size align places.0 b.addr p places.1.valid.entry
        (layout_power size align layout) found below by places.1.outcome.step
    go None none =
        alloc_exact_in_new old.memory.state new.memory.state size align places.0 b.addr places.1.valid.entry
        (layout_power size align layout) none small by places.1.outcome.step

-- ---- A block that is resized

module _ (old new : View) (block b : Block) (size align q : ℕ) (grows : GrowsBlock old new block size align (Placed b))
    (is : growing_of old.memory block size align ≡ Moves q) where
  -- A block that moves down as it grows brings as many bytes into use as it moves.
  moved_used : used_bytes new.memory.state ≡ used_bytes old.memory.state + (block.addr - q)
  unfolding grow
  moved_used =
      grow_used old.memory.state block.addr block.size block.align size align grows.0 q
      (record { answer = Some b.addr; state = new.memory.state }) grows.1.valid.entry is grows.1.outcome.step

  -- It brings at least what it grows by.
  pub grown_least : used_bytes old.memory.state + (size - block.size) ≤ used_bytes new.memory.state
  grown_least = grind (arith, nat_tests, moved_used, growth_least)

  -- It brings less than the least alignment and less than a unit more.
  pub grown_most : used_bytes new.memory.state
      ≤ used_bytes old.memory.state + (size - block.size) + (old.memory.state.min_align - 1)
      + (unit_of old.memory.state block.align - 1)
  grown_most = grind (arith, nat_tests, moved_used, growth_most)

  -- By whole units, to a multiple of the least alignment, it brings exactly what it grows by.
  pub grown_exact : block.addr % block.align ≡ 0 → size % old.memory.state.min_align ≡ 0
      → (size - block.size) % unit_of old.memory.state block.align ≡ 0
      → used_bytes new.memory.state ≡ used_bytes old.memory.state + (size - block.size)
  grown_exact aligned whole by = grind (arith, nat_tests, moved_used, growth_exact)

-- A block that moves up as it shrinks frees as many bytes as it moves.
pub shrunk_used : (old new : View) (block b : Block) (size align q : ℕ) → IsTrue (is_readable old.memory.state block)
    → ShrinksBlock old new block size align (Placed b)
    → shrinking_of old.memory block size align ≡ Moves q → used_bytes new.memory.state + (q - block.addr) ≡ used_bytes old.memory.state
unfolding shrink
shrunk_used old new block b size align q readable shrinks is =
    shrink_used old.memory.state (place_of block) size align shrinks.0 q
    (record { answer = Some b.addr; state = new.memory.state }) shrinks.1.valid.entry
    (readable_used old.memory.state block readable) is shrinks.1.outcome.step

-- A block that stays changes nothing.
pub stays_used : (old new : View) (block b : Block) (size align : ℕ) → ResizesBlock Stays old new block size align (Placed b)
    → used_bytes new.memory.state ≡ used_bytes old.memory.state
stays_used old new block b size align is = grind (arith, nat_tests, resize_stays)

-- A block that is placed again is a new block.
pub anew_least : (old new : View) (block b : Block) (size align : ℕ) → IsTrue (is_layout size align)
    → ResizesBlock Anew old new block size align (Placed b)
    → used_bytes old.memory.state + size ≤ used_bytes new.memory.state
anew_least old new block b size align layout is = grind (arith, nat_tests, alloc_least, layout_power)

pub anew_most : (old new : View) (block b : Block) (size align : ℕ) → IsTrue (is_layout size align)
    → ResizesBlock Anew old new block size align (Placed b)
    → used_bytes new.memory.state ≤ used_bytes old.memory.state + size + (unit_of old.memory.state align - 1)
anew_most old new block b size align layout is = grind (arith, nat_tests, alloc_most, layout_power)

-- ---- A block that is given back

-- what is given back leaves the state of the rule
given_state : (old new : Memory) (b : Block) → GivesBack old new b → used_bytes new.state ≡ used_bytes (dealloc old.state b.addr b.size)
given_state old new b gives = ap (λ (w : Memory). used_bytes w.state) gives.memory

-- At the cursor it frees its bytes, up to the next multiple of the least alignment.
pub returned_used : (old new : Memory) (b : Block) → IsTrue (is_readable old.state b) → GivesBack old new b
    → b.addr ≡ cursor_of old.state.chunks
    → used_bytes new.state + padded_size old.state.min_align b.addr b.size ≡ used_bytes old.state
returned_used old new b readable gives at =
    ap (λ (n : ℕ). n + padded_size old.state.min_align b.addr b.size) (given_state old new b gives)
    ∙ dealloc_used old.state (place_of b) gives.valid.entry (readable_used old.state b readable) at

-- With least alignment 1 these are its size.
pub returned_size : (old new : Memory) (b : Block) → IsTrue (is_readable old.state b) → GivesBack old new b
    → b.addr ≡ cursor_of old.state.chunks → old.state.min_align ≡ 1
    → used_bytes new.state + b.size ≡ used_bytes old.state
returned_size old new b readable gives at one = grind (arith, nat_tests, padded_exact, returned_used)

-- Elsewhere it frees none.
pub returned_elsewhere : (old new : Memory) (b : Block) → GivesBack old new b → b.addr ≢ cursor_of old.state.chunks
    → used_bytes new.state ≡ used_bytes old.state
returned_elsewhere old new b gives other = given_state old new b gives ∙ dealloc_used_elsewhere old.state b.addr b.size other

-- ---- Chunks that double

-- They still do after a new block, if its chunk is made first or none is made.
pub placed_doubling : (z : ℕ) (old new : View) (size align k : ℕ) (b : Block) → z ≤ 16320 → PlacesAfter old new size align k (Placed b)
    → IsTrue (is_made_first old.memory.state size align k) → IsDoubling z old.memory.state.chunks → IsDoubling z new.memory.state.chunks
placed_doubling z old new size align k b small places first double =
    alloc_doubling z old.memory.state size align k (record { answer = Some b.addr; state = new.memory.state }) small double first
    places.outcome.step

-- So they do after a block was resized.
pub resized_doubling : (z : ℕ) (way : Resizing) (old new : View) (block b : Block) (size align k : ℕ) → z ≤ 16320
    → ResizesAfter way old new block size align k (Placed b)
    → IsTrue (is_resize_made_first way old.memory.state size align k) → IsDoubling z old.memory.state.chunks
    → IsDoubling z new.memory.state.chunks
resized_doubling z way old new block b size align k small resizes first double =
    resize_doubling z way old.memory.state block.addr size align k (record { answer = Some b.addr; state = new.memory.state }) small double
    first resizes.outcome.step

-- So they do after a block was given back.
pub returned_doubling : (z : ℕ) (old new : Memory) (b : Block) → GivesBack old new b → IsDoubling z old.state.chunks
    → IsDoubling z new.state.chunks
returned_doubling z old new b gives double =
    subst (λ (w : Memory). IsDoubling z w.state.chunks) (sym gives.memory) (dealloc_doubling z b.addr b.size old.state double)

-- ---- A reset

-- An arena that doesn't grow has one chunk, so a reset keeps all its bytes.
pub reset_keeps_bytes : (state : State) → IsValid state → state.is_growing ≡ false → allocated_bytes (reset state) ≡ allocated_bytes state
reset_keeps_bytes state valid still = reset_allocated state ∙ sym (one_chunk state valid still)

-- for automatic proof
pub ruleset given_back_laws = (returned_used, returned_size, returned_elsewhere, reset_used, reset_keeps_bytes)
