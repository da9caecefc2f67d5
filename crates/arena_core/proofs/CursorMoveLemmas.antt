-- Blocks at the cursor that are resized in place.
use Rattle.std.proofs.lemmas.Bool.Decides.{nat_tests}
use Rattle.std.proofs.Common.{◌≡◌, ℕ, ◌+◌, ◌-◌, ◌%◌, ◌<◌, ◌≤◌, max, min, ap, refl, subst, ◌∙◌, arith, IsTrue, Some}
use Rattle.arena_rules.specs.Rounding.{down, up, is_layout}
use Rattle.arena_rules.specs.State.{State, IsValid, is_range_used, start_of, cursor_of, with_cursor}
use Rattle.arena_rules.specs.Search.{place_below}
use Rattle.arena_rules.specs.Moves.{growing, shrinking, shrink_step}
use Rattle.arena_rules.specs.Moves.Resizing.{Stays, Moves}
use Rattle.arena_rules.specs.Statistics.{one_reallocation}
use Rattle.arena_rules.proofs.RoundingLemmas.{down_le, up_ge, layout_power, min_align_positive}
use Rattle.arena_rules.proofs.PlaceLemmas.{is_place}
use Rattle.arena_rules.proofs.CursorLemmas.{start_positive, cursor_within, valid_moved}
use Rattle.arena_rules.proofs.UsedLemmas.{used_from, used_part}
use Rattle.arena_rules.proofs.MoveLemmas.{step_aligned}
use Rattle.arena_rules.proofs.ResizeSteps.{IsHere, grows_down}
use Rattle.arena_store.specs.Memory.{Memory, image, is_readable, bytes_from, Writes}
use Rattle.arena_store.specs.Source.{Source, view}
use Rattle.arena_core.specs.Answers.Answer.{Placed}
use Rattle.arena_core.specs.BlockCalls.{ResizesAfter}
use Rattle.arena_core.specs.Resizes.{FitsBelow, IsMovedDown, IsResizedUnasked}
use Rattle.arena_store.specs.declared.block.Block.{Block}
use Rattle.arena_core.specs.declared.arena.Arena.TheInside.{Inside}
use Rattle.arena_core.proofs.StoredLemmas.{view_of, Stands, IsCursor, place_stored}
use Rattle.arena_core.proofs.FrameLemmas.{byte_moved}
use Rattle.arena_core.proofs.LastLemmas.{IsLast, is_last, last_ends}
use Rattle.arena_core.proofs.ResizedLemmas.{block_in, resized_still, MovesCursor, resized_at_cursor, grown_aligned, resized_unasked}

-- ---- Where a block at the cursor moves

pub record IsShrunk (m : ℕ) (memory : Memory) (block : Block) (size align delta : ℕ) : Type 0 where
  pub last : IsLast m memory block
  pub fits : delta + size ≤ block.size
  pub step : delta ≡ shrink_step memory.state block.size size align
  pub low : start_of memory.state.chunks ≤ block.addr + delta
  pub aligned : (block.addr + delta) % memory.state.min_align ≡ 0

pub is_shrunk : (m : ℕ) (a : Inside m) (memory : Memory) (block : Block) (size align unit delta : ℕ) → Stands m a → view_of m a ≡ memory
    → IsTrue (is_readable memory.state block)
    → block.addr ≡ a.newest.cursor → size ≤ block.size → IsTrue (is_layout size align) → unit ≡ max align m
    → delta ≡ down (block.size - size) unit → IsShrunk m memory block size align delta
is_shrunk m a memory block size align unit delta stands view readable here smaller layout units is =
    let last = is_last m a memory block stands view readable here in
    let step : delta ≡ shrink_step memory.state block.size size align = is
    ∙ ap (down (block.size - size)) (units ∙ ap (max align) last.unit) in
    record {
      last = last;
      fits = omega (arith, step, smaller, down_le (block.size - size) (max align memory.state.min_align));
      step = step;
      low = omega (arith, last.at, cursor_within memory.state last.valid);
      aligned = rw step (step_aligned memory.state (record { addr = block.addr; size = block.size; align = block.align }) size align
          last.valid (layout_power size align layout) last.at);
    }

-- the bytes moved up, and then the cursor
pub shrunk : (m : ℕ) (old mid new : Memory) (block : Block) (size align delta : ℕ) → IsShrunk m old block size align delta
    → mid.state ≡ old.state
    → Writes old mid (block.addr + delta) (bytes_from (image old) block.addr size)
    → new ≡ record { state = with_cursor (block.addr + delta) mid.state; statistics = one_reallocation mid.statistics; bytes = mid.bytes }
    → MovesCursor old new block (block.addr + delta) size size
shrunk m old mid new block size align delta is same bytes moved = grind (arith, nat_tests, byte_moved)

pub record IsGrown (memory : Memory) (block : Block) (size align q : ℕ) : Type 0 where
  pub valid : IsValid memory.state
  pub at : block.addr ≡ cursor_of memory.state.chunks
  pub way : growing memory.state block.addr block.size block.align size align ≡ Moves q
  pub below : FitsBelow memory.state q block.size
  pub fits : q + size ≤ block.addr + block.size

pub is_grown : (m : ℕ) (a : Inside m) (memory : Memory) (block : Block) (size align n unit q : ℕ) → Stands m a → view_of m a ≡ memory
    → IsTrue (is_readable memory.state block) → IsHere memory.state block.addr block.size block.align size align
    → n ≡ up size m - block.size → unit ≡ block.align → IsTrue (is_layout n unit)
    → Some q ≡ place_below a.newest.base a.newest.cursor n unit m → IsGrown memory block size align q
is_grown m a memory block size align n unit q stands view readable here more same layout found =
    let valid = subst (λ (w : Memory). IsValid w.state) view stands.valid in
    let of_rule : n ≡ up size memory.state.min_align - block.size = more ∙ ap (λ (w : Memory). up size w.state.min_align - block.size) view in
    let at = place_stored m a memory n unit (Some q) stands view found in
    let spot = is_place (start_of memory.state.chunks) (cursor_of memory.state.chunks) n unit memory.state.min_align q
    (start_positive memory.state valid) (layout_power n unit layout) valid.min_align at in
    record {
      valid = valid;
      at = here.at;
      way = grows_down memory.state block.addr block.size block.align size align q here
          (rw (← of_rule, ← same) layout) (rw (← of_rule, ← same) at);
      below = record {
        low = spot.low;
        high = omega (arith, spot.high);
        aligned = spot.min_aligned;
        within = omega (arith, here.at, last_ends memory.state block valid readable here.at);
      };
      fits = omega (arith, spot.high, here.at, of_rule, up_ge size memory.state.min_align (min_align_positive memory.state.min_align valid.min_align));
    }

-- ---- Down

pub is_below : (state : State) (q n : ℕ) → IsValid state → FitsBelow state q n → IsCursor state q
is_below state q n valid fits = grind (arith, nat_tests, valid_moved)

-- with the cursor there everything is in use up to the end of the bytes that move
pub below_used : (state : State) (q n p k : ℕ) → FitsBelow state q n → q ≤ p → p + k ≤ cursor_of state.chunks + n → 0 < k
    → IsTrue (is_range_used (with_cursor q state).chunks p k)
below_used state q n p k fits low high some = grind (arith, nat_tests, used_part, used_from)

pub grown : (old new : Memory) (block : Block) (size align q : ℕ) → IsGrown old block size align q → block.size ≤ size
    → IsMovedDown old new q block.size → MovesCursor old new block q size block.size
grown old new block size align q is longer moved = grind (arith, nat_tests)

-- ---- Shrinking without a request

-- the block stays
pub shrunk_still : (memory : Memory) (block : Block) (size align : ℕ) → IsValid memory.state → IsTrue (is_readable memory.state block)
    → size ≤ block.size
    → shrinking memory.state block.addr block.size block.align size align ≡ Stays
    → IsResizedUnasked (shrinking memory.state block.addr block.size block.align size align) memory memory block size align
    (block_in memory.state block.addr size align)
shrunk_still memory block size align valid readable smaller way =
    let all : min block.size size ≡ size = omega arith in
    rw way (record {
      entry = valid;
      step = refl;
      unasked = refl;
      statistics = refl;
      resizes = rw all (resized_still memory block size align size valid readable smaller);
    })

-- the block moves down together with the cursor: the rule's result for a block that grows there
pub grown_answer : (old new : Memory) (source : Source) (block b : Block) (size align q : ℕ) → IsGrown old block size align q
    → block.size ≤ size → IsTrue (is_layout size align)
    → IsMovedDown old new q block.size → b ≡ block_in new.state q size align
    → ResizesAfter (growing old.state block.addr block.size block.align size align) (view old source) (view new source) block size align 0
    (Placed b)
grown_answer old new source block b size align q down longer layout moved answer =
    let all : min block.size size ≡ block.size = omega arith in
    let moves = grown old new block size align q down longer moved in
    let is : IsResizedUnasked (growing old.state block.addr block.size block.align size align) old new block size align b =
    rw (down.way, answer ∙ ap (λ (s : State). block_in s q size align) moved.state) (record {
      entry = down.valid;
      step = rw moved.state refl;
      unasked = refl;
      statistics = moved.statistics;
      resizes = rw all (resized_at_cursor old new block q size align block.size moves);
    }) in
    resized_unasked (growing old.state block.addr block.size block.align size align) old new source block size align b
    (grown_aligned old.state new.state block size align b is.entry layout is.resizes.of_layout.of_align is.step) is

-- the block moves up together with the cursor
pub shrunk_up : (old new : Memory) (block : Block) (size align q : ℕ) → MovesCursor old new block q size size → size ≤ block.size
    → new.statistics ≡ one_reallocation old.statistics
    → IsResizedUnasked (Moves q) old new block size align (block_in old.state q size align)
shrunk_up old new block size align q moves smaller statistics =
    let all : min block.size size ≡ size = omega arith in
    record {
      entry = moves.valid;
      step = rw moves.state refl;
      unasked = refl;
      statistics = statistics;
      resizes = rw all (resized_at_cursor old new block q size align size moves);
    }
