-- What is true of an arena after a block was placed.
use Rattle.std.proofs.Common.{◌≡◌, ℕ, ◌+◌, sym, refl, subst, arith, true, false, IsTrue, Some, None, Err}
use Rattle.std.specs.Prelude.{nat_le}
use Rattle.std.proofs.lemmas.Bool.Decides.{nat_tests}
use Rattle.arena_rules.specs.Rounding.{is_layout}
use Rattle.arena_rules.specs.State.{State, IsValid, start_of, cursor_of}
use Rattle.arena_rules.specs.Search.{place, place_below, alloc_requests}
use Rattle.arena_rules.proofs.RoundingLemmas.{layout_power}
use Rattle.arena_rules.proofs.PlaceLemmas.{IsPlace, is_place}
use Rattle.arena_rules.proofs.CursorLemmas.{start_positive, cursor_within, valid_moved}
use Rattle.arena_rules.proofs.UsedLemmas.{used_under}
use Rattle.arena_rules.proofs.AllocLemmas.{alloc_placed, alloc_refused, alloc_newest, IsGranted, is_granted}
use Rattle.arena_rules.proofs.NewBlockLemmas.{is_new_block, alloc_valid}
use Rattle.arena_rules.specs.Causes.{counted}
use Rattle.arena_rules.proofs.AllocatedLemmas.{alloc_allocated}
use Rattle.arena_store.specs.Memory.{Memory}
use Rattle.arena_store.specs.Stored.{memory_of}
use Rattle.arena_core.specs.declared.arena.Arena.TheInside.{Inside}
use Rattle.arena_store.specs.Source.{Source, view, IsAsked}
use Rattle.arena_core.specs.Adding.{IsAdded, AddsChunk, OnFound, placed_at, IsPlacing}
use Rattle.arena_core.specs.Answers.{OnCounted}
use Rattle.arena_core.specs.Answers.Answer.{Placed}
use Rattle.arena_core.specs.BlockCalls.{IsBlockOf, PlacesAfter}
use Rattle.arena_store.specs.declared.block.ArenaErr.{ArenaErr}
use Rattle.arena_store.specs.declared.block.Block.{Block}
use Rattle.arena_core.proofs.FrameLemmas.{byte_moved, frame_new}
use Rattle.arena_core.proofs.ResizedLemmas.{block_of}
use Rattle.arena_core.proofs.StoredLemmas.{view_of, moved_chunk, cursor_view, IsCursor}

-- a cursor may move down to a place
pub place_cursor : (state : State) (size align p : ℕ) → IsValid state → IsTrue (is_layout size align) → place state size align ≡ Some p
    → IsCursor state p
place_cursor state size align p valid layout found =
    let at = is_place (start_of state.chunks) (cursor_of state.chunks) size align state.min_align p (start_positive state valid)
    (layout_power size align layout) valid.min_align found in
    record {
      low = at.low;
      high = omega (arith, at.high, cursor_within state valid);
      valid = valid_moved state p valid at.low (omega (arith, at.high)) at.min_aligned;
    }

-- the view of an arena with the cursor there, whatever is ready below it, and one more allocation counted
pub placed_view : (m : ℕ) (a : Inside m) (memory : Memory) (p low n : ℕ) → view_of m a ≡ memory → n ≡ counted a.allocations 1
    → memory_of m a.is_growing a.generation n a.reallocations (moved_chunk m a p low) a.older.items ≡ placed_at memory p
placed_view m a memory p low n is one = grind (arith, nat_tests, cursor_view)

pub placing_here : (memory : Memory) (size align p : ℕ) → place memory.state size align ≡ Some p
    → IsPlacing memory (placed_at memory p) size align 0 p
placing_here memory size align p found = grind (arith, nat_tests, alloc_placed, byte_moved)

place_is : (start cursor size align m p : ℕ) → IsPlace start cursor size align m p → place_below start cursor size align m ≡ Some p
place_is start cursor size align m p at = grind (arith, nat_tests)

-- the chunk that was added has the place, and is valid
pub added_granted : (old new : Memory) (size align k p : ℕ) → IsTrue (is_layout size align) → place old.state size align ≡ None
    → (added : IsAdded old new size align k p)
    → IsGranted old.state size align k added.entry p
added_granted old new size align k p layout none added =
    is_granted old.state size align k added.entry p added.valid added.growing (layout_power size align layout) none added.asked added.place

pub added_place : (old new : Memory) (size align k p : ℕ) → IsTrue (is_layout size align) → place old.state size align ≡ None
    → IsAdded old new size align k p
    → place new.state size align ≡ Some p
added_place old new size align k p layout none added =
    let at = (added_granted old new size align k p layout none added).place in
    subst (λ (w : Memory). place w.state size align ≡ Some p) (sym added.memory)
    (place_is added.entry.0 (added.entry.0 + added.entry.1) size align old.state.min_align p at)

pub placing_in_new : (old mid : Memory) (size align k p : ℕ) → IsTrue (is_layout size align) → place old.state size align ≡ None
    → IsAdded old mid size align k p
    → IsPlacing old (placed_at mid p) size align k p
placing_in_new old mid size align k p layout none added =
    let granted = added_granted old mid size align k p layout none added in
    subst (λ (m : Memory). IsPlacing old (placed_at m p) size align k p) (sym added.memory) (record {
      step = granted.step;
      statistics = refl;
      bytes = λ a used.
          let under = used_under old.state.min_align a 1 old.state.chunks added.valid.chunks (omega arith) used in
          let above = granted.valid.chunks.1 in
          let test : nat_le added.entry.0 a ≡ false = grind (arith, nat_tests) in
          rw test refl;
    })

-- A block that was placed by the rule, as the result of a call.
pub block_placed : (old new : Memory) (before after : Source) (size align k p : ℕ) (b : Block) → IsValid old.state
    → IsTrue (is_layout size align) → IsPlacing old new size align k p
    → IsAsked before after k (alloc_requests old.state size align k)
    → b ≡ record { generation = old.state.generation; addr = p; size = size; align = align }
    → PlacesAfter (view old before) (view new after) size align k (Placed b)
block_placed old new before after size align k p b valid layout placing asked is =
    let fresh = is_new_block old.state size align k p new.state valid (layout_power size align layout) placing.step in
    subst (λ (b : Block). PlacesAfter (view old before) (view new after) size align k (Placed b)) (sym is) (record {
      valid = record {
        entry = valid;
        exit = alloc_valid old.state size align k (record { answer = Some p; state = new.state }) valid
            (layout_power size align layout) placing.step;
      };
      outcome = record {
        step = placing.step;
        asked = asked;
        of_layout = subst (λ (g : ℕ). IsBlockOf new.state size align (record { generation = g; addr = p; size = size; align = align }))
            fresh.generation (block_of new.state p size align fresh.used);
        aligned = record { own = fresh.aligned; least = rw fresh.min_align fresh.min_aligned };
        statistics = placing.statistics;
        frame = frame_new old new size align (record { generation = old.state.generation; addr = p; size = size; align = align }) valid
            fresh refl
            (λ still. alloc_allocated old.state size align k (record { answer = Some p; state = new.state }) still placing.step)
            placing.bytes;
      };
    })

-- A block that was placed at the cursor, where an allocation leaves it, as the result of a call.
pub placed_at_cursor : (old new : Memory) (before after : Source) (size align k p : ℕ) → IsValid old.state → IsTrue (is_layout size align)
    → IsPlacing old new size align k p
    → IsAsked before after k (alloc_requests old.state size align k)
    → PlacesAfter (view old before) (view new after) size align k
    (Placed (record { generation = new.state.generation; addr = cursor_of new.state.chunks; size = size; align = align }))
placed_at_cursor old new before after size align k p valid layout placing asked =
    let at = (alloc_newest old.state size align k _ placing.step).1 in
    let fresh = is_new_block old.state size align k p new.state valid (layout_power size align layout) placing.step in
    block_placed old new before after size align k p _ valid layout placing asked
    (rw (at, fresh.generation) refl)

-- All requests were refused, or there was no memory for the table of chunks.
pub all_refused : (old new : Memory) (before after : Source) (size align : ℕ) (e : ArenaErr) → IsValid old.state
    → place old.state size align ≡ None → new ≡ old
    → OnFound (Err e) (AddsChunk (view old before) (view new after) size align) ((old.state.is_growing ≡ true) × (after ≡ before))
    → OnCounted (Err e) (PlacesAfter (view old before) (view new after) size align)
all_refused old new before after size align e valid none same added = grind (arith, nat_tests, alloc_refused)
