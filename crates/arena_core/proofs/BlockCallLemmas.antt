-- A block that was placed or grown, and then written.
use Rattle.std.proofs.Common.{◌≡◌, ℕ, ◌+◌, ◌≤◌, min, ap, subst, ◌∙◌, arith, List, [], ◌∷◌, length, take, drop, replicate}
use Rattle.std.proofs.lemmas.Bool.Decides.{nat_tests}
use Rattle.std.proofs.lemmas.List.{length-replicate}
use Rattle.arena_rules.specs.State.{IsValid}
use Rattle.arena_rules.specs.Lists.{splice}
use Rattle.arena_rules.specs.Moves.{Resizing}
use Rattle.arena_store.specs.Memory.{Memory, image, bytes_from, Writes}
use Rattle.arena_store.specs.Source.{Source, view}
use Rattle.arena_core.specs.Answers.Answer.{Placed}
use Rattle.arena_core.specs.BlockCalls.{PlacesAfter, PlacesBlock, ResizesAfter, ResizesBlock, WritesBlock, EditsBlock}
use Rattle.arena_store.specs.declared.block.Block.{Block}
use Rattle.arena_store.proofs.BytesLemmas.{length-bytes, written_beside}
use Rattle.arena_core.proofs.WrittenLemmas.{bytes_same, bytes_written, bytes_within, written_within}
use Rattle.arena_core.proofs.FrameLemmas.{frame_written}
use Rattle.arena_core.proofs.FrameRules.{frame_then}

-- A range of a block is written, and nothing else changes.
pub writes_block : (old new : Memory) (b : Block) (at : ℕ) (list : List ℕ) → IsValid old.state → new.state ≡ old.state
    → new.statistics ≡ old.statistics → Writes old new (b.addr + at) list
    → at + length list ≤ b.size → WritesBlock old new b at list
writes_block old new b at list valid same statistics writes fits = grind (arith, nat_tests, frame_written)

-- A change with one possible result writes that list.
pub edits_to : (old new : Memory) (b : Block) (at size : ℕ) (list : List ℕ) → EditsBlock old new b at size (λ before after. after ≡ list)
    → WritesBlock old new b at list
edits_to old new b at size list edits = subst (WritesBlock old new b at) edits.related edits.writes

-- so does one whose list is a function of the old bytes
pub edits_by : (old new : Memory) (b : Block) (at size : ℕ) (f : List ℕ → List ℕ)
    → EditsBlock old new b at size (λ before after. after ≡ f before)
    → WritesBlock old new b at (f (bytes_from (image old) (b.addr + at) size))
edits_by old new b at size f edits = subst (WritesBlock old new b at) edits.related edits.writes

-- Writing a whole block with a part of it moved writes that part alone.
pub writes_moved : (old new : Memory) (b : Block) (from to n : ℕ) → from + n ≤ b.size → to + n ≤ b.size
    → WritesBlock old new b 0 (splice (bytes_from (image old) (b.addr + 0) b.size) to
    (take n (drop from (bytes_from (image old) (b.addr + 0) b.size))))
    → WritesBlock old new b to (bytes_from (image old) (b.addr + from) n)
writes_moved old new b from to n source target writes =
    let first : b.addr + 0 ≡ b.addr = omega arith in
    let sized = length-bytes (image old) (b.addr + from) n in
    let moved = rw (first, bytes_within (image old) b.addr b.size from n source) at writes.bytes in
    writes_block old new b to (bytes_from (image old) (b.addr + from) n) writes.valid.entry writes.state writes.statistics
    (λ p. moved p ∙ written_within (image old) b.addr b.size to p (bytes_from (image old) (b.addr + from) n) (omega arith)) (omega arith)

-- What was written is there afterwards.
pub wrote : (old new : Memory) (b : Block) (at : ℕ) (list : List ℕ) → WritesBlock old new b at list
    → bytes_from (image new) (b.addr + at) (length list) ≡ list
wrote old new b at list writes = bytes_written (image old) (image new) (b.addr + at) list writes.bytes

-- the same from the block's first byte on
pub wrote_first : (old new : Memory) (b : Block) (list : List ℕ) → WritesBlock old new b 0 list
    → bytes_from (image new) b.addr (length list) ≡ list
wrote_first old new b list writes =
    let first : b.addr ≡ b.addr + 0 = omega arith in
    ap (λ (p : ℕ). bytes_from (image new) p (length list)) first ∙ wrote old new b 0 list writes

-- the same of n bytes of one value
pub wrote_fill : (old new : Memory) (b : Block) (at n value : ℕ) → WritesBlock old new b at (replicate n value)
    → bytes_from (image new) (b.addr + at) n ≡ replicate n value
wrote_fill old new b at n value writes = rw (length-replicate n value) at (wrote old new b at (replicate n value) writes)

-- The bytes before a written range stay.
pub wrote_after : (old new : Memory) (b : Block) (at n : ℕ) (list : List ℕ) → WritesBlock old new b at list → n ≤ at
    → bytes_from (image new) b.addr n ≡ bytes_from (image old) b.addr n
wrote_after old new b at n list writes later = grind (arith, nat_tests, bytes_same, written_beside)

-- A block that was placed and then written was placed, with those bytes.
pub placed_written : (old mid new : Memory) (before after : Source) (size align k : ℕ) (b : Block) (at : ℕ) (list : List ℕ)
    → PlacesAfter (view old before) (view mid after) size align k (Placed b)
    → WritesBlock mid new b at list → PlacesAfter (view old before) (view new after) size align k (Placed b)
placed_written old mid new before after size align k b at list places writes = grind (arith, nat_tests, frame_then)

-- the same if the number of refusals isn't returned
pub places_written : (old mid new : Memory) (before after : Source) (size align : ℕ) (b : Block) (at : ℕ) (list : List ℕ)
    → PlacesBlock (view old before) (view mid after) size align (Placed b)
    → WritesBlock mid new b at list → PlacesBlock (view old before) (view new after) size align (Placed b)
places_written old mid new before after size align b at list places writes = grind (arith, nat_tests, placed_written)

-- A block that was resized and then written after the bytes that it kept was resized, with those bytes.
pub resized_written : (way : Resizing) (old mid new : Memory) (before after : Source) (block : Block) (size align k : ℕ) (b : Block)
    (at : ℕ) (list : List ℕ)
    → ResizesAfter way (view old before) (view mid after) block size align k (Placed b) → WritesBlock mid new b at list
    → min block.size size ≤ at
    → ResizesAfter way (view old before) (view new after) block size align k (Placed b)
resized_written way old mid new before after block size align k b at list resizes writes later =
    let resized = resizes.outcome in
    record {
      valid = record { entry = resizes.valid.entry; exit = writes.valid.exit };
      outcome = record {
        step = rw writes.state resized.step;
        asked = resized.asked;
        of_layout = rw writes.state resized.of_layout;
        aligned = λ is. rw writes.state (resized.aligned is);
        statistics = writes.statistics ∙ resized.statistics;
        bytes = wrote_after mid new b at (min block.size size) list writes later ∙ resized.bytes;
        frame = frame_then old mid new (block ∷ []) (b ∷ []) (b ∷ []) resized.frame writes.frame;
      };
    }

-- the same if the number of refusals isn't returned
pub resizes_written : (way : Resizing) (old mid new : Memory) (before after : Source) (block : Block) (size align : ℕ) (b : Block) (at : ℕ)
    (list : List ℕ)
    → ResizesBlock way (view old before) (view mid after) block size align (Placed b) → WritesBlock mid new b at list
    → min block.size size ≤ at
    → ResizesBlock way (view old before) (view new after) block size align (Placed b)
resizes_written way old mid new before after block size align b at list resizes writes later =
    (resizes.0, resized_written way old mid new before after block size align resizes.0 b at list resizes.1 writes later)
