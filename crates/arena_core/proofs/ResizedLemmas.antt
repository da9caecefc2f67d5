-- A block in place of another: what is true of it, and of the rest of an arena.
use Rattle.std.proofs.Common.{◌≡◌, ℕ, ◌+◌, ◌%◌, ◌<◌, ◌≤◌, min, inl, inr, ap, sym, refl, subst, ◌∙◌, arith, [], ◌∷◌, IsTrue, Some, length, eq-eqb}
use Rattle.std.proofs.lemmas.Bool.{cases_lt, or_left, or_right}
use Rattle.std.proofs.lemmas.Bool.Decides.{nat_tests}
use Rattle.arena_rules.specs.Rounding.{is_layout}
use Rattle.arena_rules.specs.State.{State, IsValid, is_range_used, start_of, cursor_of, top_of, with_cursor, allocated_bytes, AreApart}
use Rattle.arena_rules.specs.Moves.{Resizing, growing, shrinking, resize, grow, shrink}
use Rattle.arena_rules.specs.Moves.Resizing.{Anew, Refused}
use Rattle.arena_rules.specs.Blocks.{IsBlock, IsMovedBlock}
use Rattle.arena_rules.specs.Statistics.{Statistics, one_allocation, one_move}
use Rattle.arena_rules.proofs.RoundingLemmas.{layout_power}
use Rattle.arena_rules.proofs.CursorLemmas.{valid_set}
use Rattle.arena_rules.proofs.UsedLemmas.{used_set, used_from, used_beside}
use Rattle.arena_rules.proofs.AllocLemmas.{alloc_newest}
use Rattle.arena_rules.proofs.ReturnLemmas.{allocated_moved}
use Rattle.arena_rules.proofs.MoveLemmas.{grow_moved, shrink_moved}
use Rattle.arena_store.specs.Memory.{Memory, image, is_readable, bytes_from, written, Writes}
use Rattle.arena_store.specs.Source.{Source, view}
use Rattle.arena_core.specs.Frame.{Frame}
use Rattle.arena_core.specs.Answers.Answer.{Placed, Refused as AnswerRefused}
use Rattle.arena_core.specs.BlockCalls.{place_of, IsBlockOf, IsAligned, PlacesAfter, ResizesAfter}
use Rattle.arena_core.specs.Resizes.{Resizes, IsResizedUnasked, replaced}
use Rattle.arena_store.specs.declared.block.Block.{Block}
use Rattle.arena_store.proofs.AskedLemmas.{asked_none}
use Rattle.arena_store.proofs.BytesLemmas.{length-bytes, written_beside}
use Rattle.arena_core.proofs.WrittenLemmas.{bytes_same, bytes_written}
use Rattle.arena_core.proofs.FrameLemmas.{apart_part, behind, beside_range, frame_written}
use Rattle.arena_core.proofs.FrameRules.{frame_reflexive, frame_then, frame_weaken}
use Rattle.arena_core.proofs.ReadableLemmas.{readable_part}

-- the block of the state's generation at an address
abbrev pub block_in : State → ℕ → ℕ → ℕ → Block
block_in state p size align = record { generation = state.generation; addr = p; size = size; align = align }

pub block_of : (state : State) (p size align : ℕ) → (0 < size → IsTrue (is_range_used state.chunks p size))
    → IsBlockOf state size align (block_in state p size align)
block_of state p size align used = grind (arith, nat_tests, cases_lt, or_left, eq-eqb, or_right)

bytes_copied : (f g : ℕ → ℕ) (from to n : ℕ) → ((a : ℕ) → g a ≡ written f to (bytes_from f from n) a)
    → bytes_from g to n ≡ bytes_from f from n
bytes_copied f g from to n writes =
    subst (λ (k : ℕ). bytes_from g to k ≡ bytes_from f from n) (length-bytes f from n) (bytes_written f g to (bytes_from f from n) writes)

-- a block shrinks and stays where it is
pub resized_still : (memory : Memory) (block : Block) (size align n : ℕ) → IsValid memory.state → IsTrue (is_readable memory.state block)
    → size ≤ block.size
    → Resizes memory memory block (block_in memory.state block.addr size align) size align n
resized_still memory block size align n valid readable smaller =
    grind (arith, nat_tests, readable_part, frame_weaken, apart_part, frame_reflexive)

-- a block at the cursor moves together with it, with its first n bytes
pub record MovesCursor (old new : Memory) (block : Block) (q size n : ℕ) : Type 0 where
  pub valid : IsValid old.state
  pub at : block.addr ≡ cursor_of old.state.chunks
  pub ends : block.addr + block.size ≤ top_of old.state.chunks
  pub low : start_of old.state.chunks ≤ q
  pub aligned : q % old.state.min_align ≡ 0
  pub fits : q + size ≤ block.addr + block.size
  pub shorter : n ≤ size
  pub state : new.state ≡ with_cursor q old.state
  pub bytes : Writes old new q (bytes_from (image old) block.addr n)

pub resized_at_cursor : (old new : Memory) (block : Block) (q size align n : ℕ) → MovesCursor old new block q size n
    → Resizes old new block (block_in old.state q size align) size align n
resized_at_cursor old new block q size align n is = record {
  of_layout = subst (λ (s : State). IsBlockOf s size align (block_in old.state q size align)) (sym is.state)
      (block_of (with_cursor q old.state) q size align
      (λ some. used_from q size old.state.chunks some is.low (omega (arith, is.fits, is.ends))));
  bytes = bytes_copied (image old) (image new) block.addr q n is.bytes;
  frame = record {
    generation = ap (λ (s : State). s.generation) is.state;
    min_align = ap (λ (s : State). s.min_align) is.state;
    is_growing = ap (λ (s : State). s.is_growing) is.state;
    allocated = λ still. ap allocated_bytes is.state ∙ allocated_moved q old.state.chunks;
    kept = λ addr k some used apart. subst (λ (s : State). IsTrue (is_range_used s.chunks addr k)) (sym is.state)
        (used_set q addr k old.state.chunks (λ from. omega (
          arith,
          behind addr k block.addr block.size some (omega (arith, is.at)) apart.0,
          is.fits,
        )) used);
    apart = λ addr k some used apart. (beside addr k some used apart.0, tt);
    bytes = λ p used apart. is.bytes p
        ∙ written_beside (image old) q p (bytes_from (image old) block.addr n)
        (beside_range p q size q (length (bytes_from (image old) block.addr n)) (beside p 1 (omega arith) used apart.0) (omega arith)
        (omega (arith, length-bytes (image old) block.addr n, is.shorter)));
  };
  valid = subst IsValid (sym is.state) (valid_set old.state q is.valid is.low (omega (arith, is.fits, is.ends)) is.aligned);
}
  where
    -- what is used apart from the block is above it, or below the newest chunk
    beside : (addr k : ℕ) → 0 < k → IsTrue (is_range_used old.state.chunks addr k) → AreApart addr k block.addr block.size
        → AreApart addr k q size
    beside addr k some used apart = λ many filled.
        elim (used_beside old.state.min_align addr k old.state.chunks is.valid.chunks some used) [
          | inl from ↦ inr (omega (arith, behind addr k block.addr block.size some (omega (arith, is.at)) apart, is.fits))
          | inr under ↦ inl (omega (arith, is.low))
        ]

-- a block that was placed has the first n bytes of another
pub record CopiesTo (old mid new : Memory) (block b : Block) (size align n : ℕ) : Type 0 where
  pub placed : Frame old mid [] (b ∷ [])
  pub of_layout : IsBlockOf mid.state size align b
  pub valid : IsValid mid.state
  pub source : IsTrue (is_readable old.state block)
  pub within : n ≤ block.size
  pub shorter : n ≤ size
  pub state : new.state ≡ mid.state
  pub bytes : Writes mid new b.addr (bytes_from (image mid) block.addr n)

pub resized_copied : (old mid new : Memory) (block b : Block) (size align n : ℕ) → CopiesTo old mid new block b size align n
    → Resizes old new block b size align n
resized_copied old mid new block b size align n is = record {
  of_layout = subst (λ (s : State). IsBlockOf s size align b) (sym is.state) is.of_layout;
  bytes = bytes_copied (image mid) (image new) block.addr b.addr n is.bytes ∙ bytes_same (image mid) (image old) block.addr n (λ i below.
      is.placed.bytes (block.addr + i) (readable_part old.state block (block.addr + i) 1 is.source (omega arith) (omega (arith, is.within))
      (omega arith)) tt);
  frame = frame_weaken old new [] (block ∷ []) (b ∷ []) (b ∷ []) (λ addr k some apart. tt) (λ addr k some apart rest. rest)
      (frame_then old mid new [] (b ∷ []) (b ∷ []) is.placed (frame_written mid new b 0 (bytes_from (image mid) block.addr n) is.state
      (let first : b.addr + 0 ≡ b.addr = omega arith in rw first is.bytes)
      (omega (arith, length-bytes (image mid) block.addr n, is.shorter, is.of_layout.of_size))));
  valid = subst IsValid (sym is.state) is.valid;
}

-- ---- What the calls return

-- a block from one of the arena's is aligned after it grew or shrank
aligned_of : (old new : State) (block : Block) (size align : ℕ) (b : Block) → b.align ≡ align
    → IsMovedBlock old (place_of block) size align b.addr new → IsAligned new b
aligned_of old new block size align b of_align moved = grind (arith, nat_tests)

pub grown_aligned : (old new : State) (block : Block) (size align : ℕ) (b : Block) → IsValid old → IsTrue (is_layout size align)
    → b.align ≡ align
    → resize (growing old block.addr block.size block.align size align) old block.addr size align 0
    ≡ Some (record { answer = Some b.addr; state = new })
    → IsBlock old (place_of block) → IsAligned new b
unfolding grow
grown_aligned old new block size align b valid layout of_align step is =
    aligned_of old new block size align b of_align
    (grow_moved old (place_of block) size align 0 (record { answer = Some b.addr; state = new }) valid is
    (layout_power size align layout) step)

pub shrunk_aligned : (old new : State) (block : Block) (size align : ℕ) (b : Block) → IsValid old → IsTrue (is_layout size align)
    → b.align ≡ align → size ≤ block.size
    → resize (shrinking old block.addr block.size block.align size align) old block.addr size align 0
    ≡ Some (record { answer = Some b.addr; state = new })
    → IsBlock old (place_of block) → IsAligned new b
unfolding shrink
shrunk_aligned old new block size align b valid layout of_align smaller step is =
    aligned_of old new block size align b of_align
    (shrink_moved old (place_of block) size align 0 (record { answer = Some b.addr; state = new }) valid is smaller
    (layout_power size align layout) step)

-- a move without a request
pub resized_unasked : (way : Resizing) (old new : Memory) (source : Source) (block : Block) (size align : ℕ) (b : Block)
    → (IsBlock old.state (place_of block) → IsAligned new.state b)
    → IsResizedUnasked way old new block size align b → ResizesAfter way (view old source) (view new source) block size align 0 (Placed b)
resized_unasked way old new source block size align b aligned is = record {
  valid = record { entry = is.entry; exit = is.resizes.valid };
  outcome = record {
    step = is.step;
    asked = rw is.unasked (asked_none source);
    of_layout = is.resizes.of_layout;
    aligned = aligned;
    statistics = is.statistics;
    bytes = is.resizes.bytes;
    frame = is.resizes.frame;
  };
}

-- the growth isn't a valid layout
pub resized_not : (memory : Memory) (source : Source) (block : Block) (size align : ℕ) → IsValid memory.state
    → ResizesAfter Refused (view memory source) (view memory source) block size align 0 (AnswerRefused 0)
resized_not memory source block size align valid = record {
  valid = record { entry = valid; exit = valid };
  outcome = (refl, record { step = refl; asked = asked_none source; memory = refl });
}

-- an allocation that was counted, counted as a move
replaced_move : (s : Statistics) → replaced (one_allocation s) ≡ one_move s
replaced_move s = grind (arith, nat_tests, cases_lt)

-- a block was allocated again, and its first bytes were copied: it is at the cursor
pub resized_anew : (old mid new : Memory) (before after : Source) (block b : Block) (size align k : ℕ)
    → PlacesAfter (view old before) (view mid after) size align k (Placed b)
    → IsTrue (is_readable old.state block) → new.state ≡ mid.state → new.statistics ≡ replaced mid.statistics
    → Writes mid new b.addr (bytes_from (image mid) block.addr (min block.size size))
    → ResizesAfter Anew (view old before) (view new after) block size align k
    (Placed (block_in new.state (cursor_of new.state.chunks) size align))
resized_anew old mid new before after block b size align k places readable state statistics bytes =
    let placed = places.outcome in
    let resizes = resized_copied old mid new block b size align (min block.size size) (record {
      placed = placed.frame;
      of_layout = placed.of_layout;
      valid = places.valid.exit;
      source = readable;
      within = omega arith;
      shorter = omega arith;
      state = state;
      bytes = bytes;
    }) in
    let newest = (alloc_newest old.state size align k _ placed.step).1 in
    let is : b ≡ block_in new.state (cursor_of new.state.chunks) size align =
    rw (state, newest) (λ i. record {
      generation = placed.of_layout.generation i;
      addr = b.addr;
      size = placed.of_layout.of_size i;
      align = placed.of_layout.of_align i;
    }) in
    subst (λ (b : Block). ResizesAfter Anew (view old before) (view new after) block size align k (Placed b)) is (record {
      valid = record { entry = places.valid.entry; exit = resizes.valid };
      outcome = record {
        step = rw state placed.step;
        asked = placed.asked;
        of_layout = resizes.of_layout;
        aligned = λ is. rw state placed.aligned;
        statistics = statistics ∙ ap replaced placed.statistics ∙ replaced_move old.statistics;
        bytes = resizes.bytes;
        frame = resizes.frame;
      };
    })
