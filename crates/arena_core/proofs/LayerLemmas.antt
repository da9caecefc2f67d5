-- What the calls on blocks mean for a layer above.
use Rattle.std.proofs.Common.{◌≡◌, ℕ, zero, suc, ◌+◌, ◌^◌, ◌<◌, ◌≤◌, List, [], ◌∷◌, ◌++◌, length, map, sum, inl, inr, ap, refl, sym, ◌∙◌, arith, IsTrue, Some, false}
use Rattle.std.specs.List.{AllByRecursion}
use Rattle.std.proofs.lemmas.Bool.{cases_lt, cond_both, or_cases}
use Rattle.std.proofs.lemmas.Bool.Decides.{nat_tests}
use Rattle.std.proofs.lemmas.Grind.{common_steps}
use Rattle.std.proofs.lemmas.List.Sums.{sum_by-cons}
use Rattle.std.proofs.lemmas.Option.{cond_some}
use Rattle.arena_rules.specs.State.{State, Chunk, IsValid, AreChunks, used_length, used_bytes, is_used_by, is_range_used}
use Rattle.arena_rules.specs.Moves.{Resizing, resize, fails}
use Rattle.arena_rules.specs.Moves.Resizing.{Anew}
use Rattle.arena_rules.specs.Lists.{splice}
use Rattle.arena_rules.specs.Blocks.{padded_size}
use Rattle.arena_rules.proofs.UsedLemmas.{used_low, used_below_last}
use Rattle.arena_rules.proofs.UsedResizeLemmas.{padded_exact}
use Rattle.arena_store.specs.Memory.{Memory, is_readable, image, bytes_from, written}
use Rattle.arena_store.specs.Source.{View}
use Rattle.arena_core.specs.Answers.{Answer}
use Rattle.arena_core.specs.Answers.Answer.{Placed}
use Rattle.arena_core.specs.Frame.{IsApart, AreBlocksApart, ArePairwiseApart, Frame, Stays, padded}
use Rattle.arena_core.specs.BlockCalls.{PlacesBlock, ResizesAfter, ShrinksBlock, GivesBack, WritesBlock}
use Rattle.arena_core.specs.Resizes.{NoneReadable}
use Rattle.arena_store.specs.declared.block.Block.{Block}
use Rattle.arena_store.proofs.BytesLemmas.{written_none}
use Rattle.arena_core.proofs.WrittenLemmas.{bytes_spliced}
use Rattle.arena_core.proofs.LastLemmas.{dealloc_bytes}
pub use Rattle.arena_core.proofs.ReadableLemmas.{readable_used}
use Rattle.arena_core.proofs.FrameLemmas.{apart_turned}
use Rattle.arena_core.proofs.FrameRules.{frame_then, frame_weaken, frame_keeps, is_filled}
use Rattle.arena_core.proofs.BlockCallLemmas.{wrote, wrote_first, wrote_after, writes_block}

-- ---- Where a readable block is

-- Its addresses are 4096 and above.
pub readable_low : (state : State) (b : Block) → IsValid state → 0 < b.size → IsTrue (is_readable state b) → 4096 ≤ b.addr
readable_low state b valid some readable = used_low state b.addr b.size valid some (is_filled state b some readable).used

-- They are below 2 ^ 64.
pub readable_high : (state : State) (b : Block) → IsValid state → 0 < b.size → IsTrue (is_readable state b) → b.addr + b.size < 2 ^ 64
readable_high state b valid some readable = used_below_last state b.addr b.size valid some (is_filled state b some readable).used

-- A chunk has at most 2 ^ 63 - 64 bytes, and so has a range in use.
range_size : (m addr n : ℕ) (chunks : List Chunk) → AreChunks m chunks → IsTrue (is_range_used chunks addr n) → n + 64 ≤ 2 ^ 63
range_size m addr n [] are used = absurd cc
range_size m addr n (newest ∷ older) are used = elim (or_cases (is_used_by addr n newest) (is_range_used older addr n) used) [
  | inl here ↦ (let is = are.0 in grind (arith, nat_tests))
  | inr there ↦ range_size m addr n older are.2 there
]

-- It has at most 2 ^ 63 - 64 bytes.
pub readable_size : (state : State) (b : Block) → IsValid state → IsTrue (is_readable state b) → b.size + 64 ≤ 2 ^ 63
readable_size state b valid readable = grind (arith, nat_tests, cases_lt, range_size, is_filled)

-- If no byte of the chunks is used, no range of some bytes is.
unused_chunks : (chunks : List Chunk) (addr n : ℕ) → sum (map used_length chunks) ≡ 0 → 0 < n → is_range_used chunks addr n ≡ false
unused_chunks [] addr n used some = refl
unused_chunks (newest ∷ older) addr n used some =
    let all = sum_by-cons (λ (x : ℕ). x) (used_length newest) (map used_length older) in
    let rest = unused_chunks older addr n (omega (arith, all, used)) some in
    let none : used_length newest ≡ 0 = omega (arith, all, used) in
    grind (arith, nat_tests)

-- If no byte is in use, no block of some bytes is readable.
pub unused_unreadable : (state : State) → used_bytes state ≡ 0 → NoneReadable state
unused_unreadable state used b some = let none = unused_chunks state.chunks b.addr b.size used some in grind (arith, nat_tests)

-- ---- What stays

-- in a call that had no block
pub frame_keeps_new : (old new : Memory) (after : List Block) (b : Block) → Frame old new [] after → IsTrue (is_readable old.state b)
    → Stays old new after b
frame_keeps_new old new after b frame readable = frame_keeps old new [] after b frame readable tt

-- in a call that had one block
pub frame_keeps_beside : (old new : Memory) (one : Block) (after : List Block) (b : Block) → Frame old new (one ∷ []) after
    → IsTrue (is_readable old.state b)
    → AreBlocksApart b one → Stays old new after b
frame_keeps_beside old new one after b frame readable apart = frame_keeps old new (one ∷ []) after b frame readable (apart, tt)

-- ---- A new block

-- It is apart from all readable blocks.
pub placed_apart : (old new : View) (size align : ℕ) (b : Block) (bs : List Block) → PlacesBlock old new size align (Placed b)
    → AllByRecursion (λ (c : Block). IsTrue (is_readable old.memory.state c)) bs → IsApart b.addr b.size bs
placed_apart old new size align b [] places readable = tt
placed_apart old new size align b (c ∷ bs) places readable = (
  λ some filled. apart_turned c.addr c.size b.addr b.size
      (places.1.outcome.frame.apart c.addr c.size filled (is_filled old.memory.state c filled readable.0).used tt).0 some filled,
  placed_apart old new size align b bs places readable.1,
)

-- So it joins blocks that are pairwise apart.
pub placed_pairwise : (old new : View) (size align : ℕ) (b : Block) (bs : List Block) → PlacesBlock old new size align (Placed b)
    → AllByRecursion (λ (c : Block). IsTrue (is_readable old.memory.state c)) bs → ArePairwiseApart bs → ArePairwiseApart (b ∷ bs)
placed_pairwise old new size align b bs places readable apart = (placed_apart old new size align b bs places readable, apart)

-- ---- A block that shrinks without a greater alignment

-- A block that stays or moves up is returned.
kept_placed : (way : Resizing) (old new : View) (block : Block) (size align k : ℕ) (answer : Answer) → (way ≡ Anew → ⊥)
    → (resize way old.memory.state block.addr size align k ≡ Some (fails old.memory.state) → ⊥)
    → ResizesAfter way old new block size align k answer → (b : Block) × (answer ≡ Placed b)
kept_placed way old new block size align k answer kept moves is = grind (arith, nat_tests)

-- Shrinking without a greater alignment is never refused, and never runs out of memory.
pub shrunk_placed : (old new : View) (block : Block) (size align : ℕ) (answer : Answer) → align ≤ block.align
    → ShrinksBlock old new block size align answer → (b : Block) × (answer ≡ Placed b)
shrunk_placed old new block size align answer lower shrinks = grind (arith, nat_tests, cond_both, kept_placed, cond_some)

-- ---- A block that is given back

-- No byte changes.
pub returned_bytes : (old new : Memory) (b : Block) (addr : ℕ) → GivesBack old new b → image new addr ≡ image old addr
returned_bytes old new b addr gives = ap (λ (w : Memory). image w addr) gives.memory ∙ dealloc_bytes old b addr

-- With least alignment 1, only the use of the block's own bytes changes.
pub returned_plain : (old new : Memory) (b : Block) → GivesBack old new b → old.state.min_align ≡ 1 → Frame old new (b ∷ []) []
returned_plain old new b gives one =
    let unpadded : padded_size old.state.min_align b.addr b.size ≡ b.size =
    rw one (padded_exact 1 b.addr b.size (omega arith) (omega arith) (omega arith)) in
    frame_weaken old new (padded old.state.min_align b ∷ []) (b ∷ []) [] [] (λ addr n some apart. (rw unpadded apart.0, tt))
    (λ addr n some apart rest. tt) gives.frame

-- ---- A block that is written

-- Its bytes are the old ones with the list in place of the range.
pub wrote_part : (old new : Memory) (b : Block) (at : ℕ) (list : List ℕ) → WritesBlock old new b at list → at + length list ≤ b.size
    → bytes_from (image new) b.addr b.size ≡ splice (bytes_from (image old) b.addr b.size) at list
wrote_part old new b at list writes within = bytes_spliced (image old) (image new) b.addr b.size at list within writes.bytes

-- A list as long as the block is all of its bytes.
pub wrote_whole : (old new : Memory) (b : Block) (list : List ℕ) → WritesBlock old new b 0 list → length list ≡ b.size
    → bytes_from (image new) b.addr b.size ≡ list
wrote_whole old new b list writes sized = ap (λ (n : ℕ). bytes_from (image new) b.addr n) (sym sized) ∙ wrote_first old new b list writes

-- consecutive bytes
bytes_joined : (f : ℕ → ℕ) (addr m n : ℕ) → bytes_from f addr (m + n) ≡ bytes_from f addr m ++ bytes_from f (addr + m) n
unfolding bytes_from
bytes_joined f addr zero n =
    let all : 0 + n ≡ n = omega arith in
    let from : addr + 0 ≡ addr = omega arith in
    rw (all, from) refl
bytes_joined f addr (suc m) n =
    let all : suc m + n ≡ suc (m + n) = omega arith in
    let from : addr + suc m ≡ addr + 1 + m = omega arith in
    rw (all, from) (ap (λ (rest : List ℕ). f addr ∷ rest) (bytes_joined f (addr + 1) m n))

-- The list follows the bytes before the range.
pub wrote_behind : (old new : Memory) (b : Block) (at : ℕ) (list : List ℕ) → WritesBlock old new b at list
    → bytes_from (image new) b.addr (at + length list) ≡ bytes_from (image old) b.addr at ++ list
wrote_behind old new b at list writes =
    bytes_joined (image new) b.addr at (length list)
    ∙ rw (wrote_after old new b at at list writes (omega arith), wrote old new b at list writes) refl

-- The same blocks are readable.
pub wrote_readable : (old new : Memory) (b c : Block) (at : ℕ) (list : List ℕ) → WritesBlock old new b at list
    → is_readable new.state c ≡ is_readable old.state c
wrote_readable old new b c at list writes = ap (λ (s : State). is_readable s c) writes.state

-- An image with two lists written one after another.
written_more : (f g : ℕ → ℕ) (addr p : ℕ) (xs ys : List ℕ) → g p ≡ written f addr xs p
    → written g (addr + length xs) ys p ≡ written f addr (xs ++ ys) p
written_more f g addr p xs ys first = grind (arith, nat_tests, cases_lt, common_steps)

-- Two adjacent writes are one.
pub writes_more : (old mid new : Memory) (b : Block) (at : ℕ) (first second : List ℕ) → WritesBlock old mid b at first
    → WritesBlock mid new b (at + length first) second
    → WritesBlock old new b at (first ++ second)
writes_more old mid new b at first second before after = record {
  valid = record { entry = before.valid.entry; exit = after.valid.exit };
  state = after.state ∙ before.state;
  statistics = after.statistics ∙ before.statistics;
  bytes = λ p. after.bytes p ∙ ap (λ (q : ℕ). written (image mid) q second p) (omega arith)
      ∙ written_more (image old) (image mid) (b.addr + at) p first second (before.bytes p);
  frame = frame_then old mid new (b ∷ []) (b ∷ []) (b ∷ []) before.frame after.frame;
}

-- A write of no bytes changes nothing.
pub writes_nothing : (memory : Memory) (b : Block) (at : ℕ) → IsValid memory.state → at ≤ b.size → WritesBlock memory memory b at []
writes_nothing memory b at valid within = grind (arith, nat_tests, writes_block, written_none)
