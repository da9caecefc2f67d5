-- A granted chunk becomes the newest.
use Rattle.std.proofs.Common.{◌≡◌, ℕ, ◌+◌, ◌-◌, ◌≤◌, ◌^◌, max, ap, sym, refl, subst, ◌∙◌, arith, IsTrue, Some, None, Option, List, [], ◌∷◌, true, false, length}
use Rattle.std.specs.Prelude.{◌==◌, if◌then◌else◌, slice_get}
use Rattle.std.specs.Option.{option_map_or}
use Rattle.std.proofs.lemmas.Bool.Decides.{nat_tests}
use Rattle.std.specs.List.{All}
use Rattle.arena_rules.specs.Rounding.{is_layout}
use Rattle.arena_rules.specs.State.{State, Chunk, AreChunks, IsValid, floor_of}
use Rattle.arena_rules.specs.Search.{asked, asked_above, requests}
use Rattle.arena_rules.specs.Moves.{with_chunk}
use Rattle.arena_rules.proofs.RoundingLemmas.{up_ge, power_positive, max_power, pow_power, layout_power}
use Rattle.arena_rules.proofs.AllocLemmas.{entry_of, valid_grown}
use Rattle.arena_store.specs.Memory.{Memory}
use Rattle.arena_region.specs.Bytes.{Bytes}
use Rattle.arena_store.specs.Stored.{all_chunks, IsReady, IsStored}
use Rattle.arena_store.specs.Source.{Source, view}
use Rattle.arena_core.specs.Adding.{AddsChunk}
use Rattle.arena_store.specs.declared.chunk.StoredChunk.{StoredChunk}
use Rattle.arena_core.specs.declared.arena.Arena.TheInside.{Inside}
use Rattle.arena_store.proofs.AskedLemmas.{asked_none}
use Rattle.arena_core.proofs.StoredLemmas.{kind, view_with, view_of, Stands}

-- an arena that doesn't grow asks for nothing
pub adds_none : (memory : Memory) (size align : ℕ) (source : Source) → memory.state.is_growing ≡ false
    → AddsChunk (view memory source) (view memory source) size align 0 None
unfolding asked requests
adds_none memory size align source still = record { added = rw still refl; asked = rw still (asked_none source) }

-- a chunk that was granted was asked for, has room for the block, and makes a valid state
pub record IsRoom (state : State) (size align k base n : ℕ) : Type 0 where
  pub asked : slice_get (asked state size align) k ≡ Some (base, n)
  pub holds : size ≤ n
  pub top : base + n + 48 ≤ 2 ^ 64 - 1
  pub old : IsValid state
  pub growing : state.is_growing ≡ true
  pub valid : IsValid (with_chunk (base, n) state)

pub is_room : (state : State) (size align k base n : ℕ) → IsValid state → state.is_growing ≡ true → IsTrue (is_layout size align)
    → slice_get (asked state size align) k ≡ Some (base, n) → IsRoom state size align k base n
is_room state size align k base n valid growing layout at =
    let power = layout_power size align layout in
    let entry = entry_of state size align k (base, n) growing power at in
    let unit = power_positive (max align 16) (max_power align 16 power (pow_power 4 (omega arith))) in
    record {
      asked = at;
      holds = omega (arith, entry.holds, up_ge size (max align 16) unit);
      top = entry.top;
      old = valid;
      growing = growing;
      valid = valid_grown state size align (base, n) valid growing power entry;
    }

floor_large : (m : ℕ) → (chunks : List Chunk) → AreChunks m chunks → 4096 ≤ floor_of chunks
floor_large m [] valid = omega arith
floor_large m (newest ∷ older) valid = omega (arith, floor_large m older valid.2, valid.1)

module _ (m : ℕ) (a : Inside m) where
  -- what is asked for, in terms of the fields
  pub asked_stored : (memory : Memory) (size align n : ℕ) (end : Option ℕ) → Stands m a → view_of m a ≡ memory → a.is_growing ≡ true
      → n ≡ length a.newest.bytes.items
      → end ≡ (if a.newest.base == 16 then None else Some (a.newest.base + length a.newest.bytes.items))
      → asked_above (option_map_or (λ e. e + 48) end 4096) n size align ≡ asked memory.state size align
  unfolding asked
  asked_stored memory size align n end stands view growing sized is = grind (arith, nat_tests, kind)

  pub room_stored : (memory : Memory) (size align k base count n : ℕ) (end : Option ℕ) → Stands m a → view_of m a ≡ memory
      → a.is_growing ≡ true → IsTrue (is_layout size align)
      → n ≡ length a.newest.bytes.items → end ≡ (if a.newest.base == 16 then None else Some (a.newest.base + length a.newest.bytes.items))
      → slice_get (asked_above (option_map_or (λ e. e + 48) end 4096) n size align) k ≡ Some (base, count)
      → IsRoom memory.state size align k base count
  room_stored memory size align k base count n end stands view growing layout sized ends at =
      is_room memory.state size align k base count (subst (λ (w : Memory). IsValid w.state) view stands.valid)
      (ap (λ (w : Memory). w.state.is_growing) (sym view) ∙ growing) layout
      (rw (asked_stored memory size align n end stands view growing sized ends) at at)

  -- the table, once it has what was the newest chunk, has all chunks
  table_all : (older : List StoredChunk) → Stands m a
      → older ≡ (if a.newest.base == 16 then a.older.items else a.newest ∷ a.older.items)
      → older ≡ all_chunks a.newest a.older.items
  table_all older stands is = grind (arith, nat_tests, kind)

  table_ready : (older : List StoredChunk) → Stands m a
      → older ≡ (if a.newest.base == 16 then a.older.items else a.newest ∷ a.older.items) → All IsReady older
  table_ready older stands is = grind (arith, nat_tests, kind)

  pub record IsInstalled (memory : Memory) (base : ℕ) (bytes : List ℕ) (newest : StoredChunk) (older : List StoredChunk) : Type 0 where
    pub view : view_with m a newest older
        ≡ record { state = with_chunk (base, length bytes) memory.state; statistics = memory.statistics; bytes = bytes ∷ memory.bytes }
    pub stored : IsStored (view_with m a newest older) newest older

  pub installed : (memory : Memory) (base : ℕ) (bytes : Bytes) (newest : StoredChunk) (older : List StoredChunk) → Stands m a
      → view_of m a ≡ memory
      → IsValid (with_chunk (base, length bytes.items) memory.state)
      → newest ≡ record { base = base; cursor = base + length bytes.items; bytes = bytes } → IsReady newest
      → older ≡ (if a.newest.base == 16 then a.older.items else a.newest ∷ a.older.items)
      → IsInstalled memory base bytes.items newest older
  installed memory base bytes newest older stands view valid is ready table =
      grind (arith, nat_tests, floor_large, table_all, view_of, table_ready)
