-- A block that is placed in the newest chunk, with a copy in it.
use Rattle.std.proofs.Common.{◌≡◌, ℕ, ◌-◌, ◌<◌, ◌≤◌, min, refl, subst, arith, List, IsTrue, Some}
use Rattle.arena_rules.specs.Rounding.{is_layout}
use Rattle.arena_rules.specs.State.{IsValid, is_range_used, with_cursor}
use Rattle.arena_rules.specs.Search.{place}
use Rattle.arena_rules.specs.Causes.{counted}
use Rattle.arena_rules.proofs.RoundingLemmas.{layout_power}
use Rattle.arena_rules.proofs.UsedLemmas.{used_part}
use Rattle.arena_rules.proofs.AllocLemmas.{alloc_placed}
use Rattle.arena_rules.proofs.NewBlockLemmas.{is_new_block}
use Rattle.arena_store.specs.Memory.{Memory, image, bytes_from, Writes, written}
use Rattle.arena_core.specs.Adding.{placed_at}
use Rattle.arena_store.specs.Stored.{IsStored, with_part}
use Rattle.arena_store.specs.declared.chunk.StoredChunk.{StoredChunk}
use Rattle.arena_core.specs.declared.arena.Arena.TheInside.{Inside}
use Rattle.arena_core.proofs.FrameLemmas.{bytes_moved}
use Rattle.arena_core.proofs.StoredLemmas.{view_with, view_of, Stands, moved_chunk, cursor_moved, start_stored}
use Rattle.arena_core.proofs.AllocationLemmas.{place_cursor, placed_view}
use Rattle.arena_core.proofs.PartLemmas.{IsRange, is_range, newest_lent, moved}

-- a first part of a block that was placed is in use
pub placed_used : (memory : Memory) (size align p n : ℕ) → IsValid memory.state → IsTrue (is_layout size align)
    → place memory.state size align ≡ Some p → 0 < n → n ≤ size
    → IsTrue (is_range_used (with_cursor p memory.state).chunks p n)
placed_used memory size align p n valid layout found some fits =
    let fresh = is_new_block memory.state size align 0 p (with_cursor p memory.state) valid (layout_power size align layout)
    (alloc_placed memory.state size align p found) in
    used_part p size p n (with_cursor p memory.state).chunks (omega arith) (omega arith) (fresh.used (omega arith))

module _ (m : ℕ) (a : Inside m) (memory : Memory) where
  -- the arena with a block that is placed at an address: it is ready from there on, and counted
  abbrev pub placed_inside : ℕ → Inside m
  placed_inside addr = record a {
    newest = moved_chunk m a addr (min a.newest.bytes.low (addr - a.newest.base));
    allocations = counted a.allocations 1;
  }

  -- some bytes, in use then, are copied into the block
  pub record IsCopying (addr from n : ℕ) : Type 0 where
    pub source : IsRange m (placed_inside addr) (placed_at memory addr) from n
    pub target : IsRange m (placed_inside addr) (placed_at memory addr) addr n
    pub above : a.newest.base ≤ addr

  pub copying : (size align addr from n : ℕ) → Stands m a → view_of m a ≡ memory → IsTrue (is_layout size align)
      → place memory.state size align ≡ Some addr → (0 < n → IsTrue (is_range_used (with_cursor addr memory.state).chunks from n))
      → n ≤ size → (n ≡ 0 → ⊥) → IsCopying addr from n
  copying size align addr from n stands view layout found source fits some =
      let more : 0 < n = omega (arith, some) in
      let valid = subst (λ (w : Memory). IsValid w.state) view stands.valid in
      let at = place_cursor memory.state size align addr valid layout found in
      let low : ℕ = min a.newest.bytes.low (addr - a.newest.base) in
      let above : a.newest.base ≤ addr = omega (arith, at.low, start_stored m a memory stands view) in
      let placed = cursor_moved m a memory addr low a.generation (counted a.allocations 1) a.reallocations stands view at
      stands.valid.generation (omega (arith, above)) in
      let placed_is = placed_view m a memory addr low (counted a.allocations 1) view refl in
      let range = is_range m (placed_inside addr) (placed_at memory addr) in
      record {
        source = range from n placed placed_is more (source more);
        target = range addr n placed placed_is more (placed_used memory size align addr n valid layout found more fits);
        above = above;
      }

  -- the newest chunk with its cursor at the address, and a list written from there on
  abbrev pub put_chunk : ℕ → List ℕ → StoredChunk
  put_chunk addr list = with_part (placed_inside addr).newest addr list

  -- the arena with the copy
  pub record IsCopied (addr from n : ℕ) (list : List ℕ) : Type 0 where
    pub stored : IsStored (view_with m (placed_inside addr) (put_chunk addr list) a.older.items) (put_chunk addr list) a.older.items
    pub state : (view_with m (placed_inside addr) (put_chunk addr list) a.older.items).state ≡ with_cursor addr memory.state
    pub bytes : Writes memory (view_with m (placed_inside addr) (put_chunk addr list) a.older.items) addr (bytes_from (image memory) from n)

  pub copied : (addr from n : ℕ) (list : List ℕ) → IsCopying addr from n → list ≡ bytes_from (image (placed_at memory addr)) from n
      → IsCopied addr from n list
  copied addr from n list is same =
      let made = moved m (placed_inside addr) (placed_at memory addr) from addr n list (put_chunk addr list) a.older.items same
      (newest_lent m (placed_inside addr) (placed_at memory addr) addr n list is.target is.above) in
      record {
        stored = made.stored;
        state = made.state;
        bytes = subst (λ (f : ℕ → ℕ). (p : ℕ) → image (view_with m (placed_inside addr) (put_chunk addr list) a.older.items) p
            ≡ written f addr (bytes_from f from n) p)
            (bytes_moved addr memory.state.chunks memory.bytes) made.image;
      }
