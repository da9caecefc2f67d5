-- Blocks apart; frames one after another, of more and fewer blocks, with one more block; where a readable block is.
use Rattle.std.proofs.Common.{◌≡◌, ℕ, ◌+◌, ◌<◌, ◌≤◌, inl, inr, ◌↔◌, refl, arith, List, [], ◌∷◌, ◌++◌, IsTrue, eq-eqb}
use Rattle.std.specs.List.{Contains, AllByRecursion}
use Rattle.std.proofs.lemmas.Bool.{cases_lt, or_cases, or_left, or_right}
use Rattle.std.proofs.lemmas.Bool.Decides.{nat_tests}
use Rattle.std.proofs.lemmas.List.Folds.{list_any_at}
use Rattle.std.proofs.lemmas.List.Elements.{Contains-append_right}
use Rattle.arena_rules.specs.State.{State, Chunk, is_used_by, is_range_used}
use Rattle.arena_store.specs.Memory.{Memory, is_readable}
use Rattle.arena_core.specs.Frame.{IsApart, AreAllApart, ArePairwiseApart, AreBlocksApart, Frame, Stays, IsInUse}
use Rattle.arena_store.specs.declared.block.Block.{Block}
use Rattle.arena_core.proofs.FrameLemmas.{apart_part, apart_turned}
use Rattle.arena_core.proofs.WrittenLemmas.{bytes_same}
use Rattle.arena_core.proofs.ReadableLemmas.{readable_part}

-- ---- Blocks that are apart

-- Two blocks are apart in either order.
pub blocks_turned : (b c : Block) → AreBlocksApart b c → AreBlocksApart c b
blocks_turned b c = apart_turned b.addr b.size c.addr c.size

-- A part of a range that is apart from blocks is, too.
pub apart_within : (addr n from k : ℕ) (bs : List Block) → addr ≤ from → from + k ≤ addr + n → IsApart addr n bs → IsApart from k bs
apart_within addr n from k [] low high apart = tt
apart_within addr n from k (b ∷ bs) low high apart = (
  apart_turned b.addr b.size from k (apart_part b.addr b.size addr n from k (apart_turned addr n b.addr b.size apart.0) low high),
  apart_within addr n from k bs low high apart.1,
)

-- A range of no addresses is apart from all blocks.
pub apart_empty : (addr n : ℕ) (bs : List Block) → n ≡ 0 → IsApart addr n bs
apart_empty addr n [] none = tt
apart_empty addr n (b ∷ bs) none = ((λ some filled. absurd (omega arith)), apart_empty addr n bs none)

-- What is apart from two lists of blocks is apart from both together.
pub apart_both : (addr n : ℕ) (xs ys : List Block) → IsApart addr n xs → IsApart addr n ys → IsApart addr n (xs ++ ys)
apart_both addr n [] ys first second = second
apart_both addr n (x ∷ xs) ys first second = (first.0, apart_both addr n xs ys first.1 second)

-- the converse of `apart_both`
pub apart_each : (addr n : ℕ) (xs ys : List Block) → IsApart addr n (xs ++ ys) → IsApart addr n xs × IsApart addr n ys
apart_each addr n [] ys apart = (tt, apart)
apart_each addr n (x ∷ xs) ys apart = let rest = apart_each addr n xs ys apart.1 in ((apart.0, rest.0), rest.1)

-- Blocks that are apart from a block, and it from them.
pub all_apart : (b : Block) (bs : List Block) → IsApart b.addr b.size bs → AreAllApart bs (b ∷ [])
all_apart b [] apart = tt
all_apart b (c ∷ bs) apart = ((blocks_turned b c apart.0, tt), all_apart b bs apart.1)

-- Two lists of blocks, each pairwise apart, are so together, if each block of one is apart from each of the other.
pub pairwise_both : (xs ys : List Block) → ArePairwiseApart xs → ArePairwiseApart ys → AreAllApart xs ys → ArePairwiseApart (xs ++ ys)
pairwise_both [] ys first second all = second
pairwise_both (x ∷ xs) ys first second all = (apart_both x.addr x.size xs ys first.0 all.0, pairwise_both xs ys first.1 second all.1)

-- ---- Frames

-- nothing happened
pub frame_reflexive : (memory : Memory) (blocks : List Block) → Frame memory memory blocks blocks
frame_reflexive memory blocks = grind (arith, nat_tests)

-- one call after another
pub frame_then : (old mid new : Memory) (before between after : List Block) → Frame old mid before between → Frame mid new between after
    → Frame old new before after
frame_then old mid new before between after first second = grind (arith, nat_tests)

-- more blocks before, fewer after
pub frame_weaken : (old new : Memory) (before more after fewer : List Block)
    → ((addr n : ℕ) → 0 < n → IsApart addr n more → IsApart addr n before)
    → ((addr n : ℕ) → 0 < n → IsApart addr n more → IsApart addr n after → IsApart addr n fewer) → Frame old new before after
    → Frame old new more fewer
frame_weaken old new before more after fewer larger smaller frame = grind (arith, nat_tests)

-- the blocks after are forgotten
pub frame_forget : (old new : Memory) (before after : List Block) → Frame old new before after → Frame old new before []
frame_forget old new before after = frame_weaken old new before before after [] (λ addr n some apart. apart) (λ addr n some apart rest. tt)

-- with other blocks of the caller's
pub frame_beside : (old new : Memory) (before after others : List Block) → Frame old new before after
    → Frame old new (before ++ others) (after ++ others)
frame_beside old new before after others =
    frame_weaken old new before (before ++ others) after (after ++ others) (λ addr n some apart. (apart_each addr n before others apart).0)
    (λ addr n some apart rest. apart_both addr n after others rest (apart_each addr n before others apart).1)

pub frame_behind : (old new : Memory) (before after others : List Block) → Frame old new before after
    → Frame old new (others ++ before) (others ++ after)
frame_behind old new before after others =
    frame_weaken old new before (others ++ before) after (others ++ after) (λ addr n some apart. (apart_each addr n others before apart).1)
    (λ addr n some apart rest. apart_both addr n others after (apart_each addr n others before apart).0 rest)

-- a call on the last of some blocks, and then one on the first
pub frame_both : (old mid new : Memory) (first last first' last' : List Block) → Frame old mid last last' → Frame mid new first first'
    → Frame old new (first ++ last) (first' ++ last')
frame_both old mid new first last first' last' one two =
    frame_then old mid new (first ++ last) (first ++ last') (first' ++ last') (frame_behind old mid last last' first one)
    (frame_beside mid new first first' last' two)

-- an empty block among others doesn't matter
apart_but : (addr n : ℕ) (first last : List Block) (b : Block) → b.size ≡ 0 → IsApart addr n (first ++ b ∷ last)
    ↔ IsApart addr n (first ++ last)
apart_but addr n first last b none = (
  λ apart. let parts = apart_each addr n first (b ∷ last) apart in apart_both addr n first last parts.0 parts.1.1,
  λ apart. let parts = apart_each addr n first last apart in
      apart_both addr n first (b ∷ last) parts.0 ((λ some filled. absurd (omega arith)), parts.1),
)

-- the same for the blocks before a call, or after it
pub empty_before : (old new : Memory) (first last after : List Block) (b : Block) → b.size ≡ 0 → Frame old new (first ++ b ∷ last) after
    ↔ Frame old new (first ++ last) after
empty_before old new first last after b none = (
  frame_weaken old new (first ++ b ∷ last) (first ++ last) after after (λ addr n some apart. (apart_but addr n first last b none).1 apart)
      (λ addr n some apart rest. rest),
  frame_weaken old new (first ++ last) (first ++ b ∷ last) after after (λ addr n some apart. (apart_but addr n first last b none).0 apart)
      (λ addr n some apart rest. rest),
)

pub empty_after : (old new : Memory) (before first last : List Block) (b : Block) → b.size ≡ 0 → Frame old new before (first ++ b ∷ last)
    ↔ Frame old new before (first ++ last)
empty_after old new before first last b none = (
  frame_weaken old new before before (first ++ b ∷ last) (first ++ last) (λ addr n some apart. apart)
      (λ addr n some apart rest. (apart_but addr n first last b none).0 rest),
  frame_weaken old new before before (first ++ last) (first ++ b ∷ last) (λ addr n some apart. apart)
      (λ addr n some apart rest. (apart_but addr n first last b none).1 rest),
)

-- ---- Readable blocks

-- a readable block of some bytes
pub record IsFilled (state : State) (b : Block) : Type 0 where
  pub generation : b.generation ≡ state.generation
  pub used : IsTrue (is_range_used state.chunks b.addr b.size)

pub is_filled : (state : State) (b : Block) → 0 < b.size → IsTrue (is_readable state b) → IsFilled state b
is_filled state b some readable = record { generation = grind (arith, nat_tests); used = grind (arith, nat_tests) }

-- the converse of `is_filled`
pub filled_readable : (state : State) (b : Block) → IsFilled state b → IsTrue (is_readable state b)
filled_readable state b is = grind (arith, nat_tests, or_right, eq-eqb)

-- a readable block that is apart from those before stays
pub frame_keeps : (old new : Memory) (before after : List Block) (b : Block) → Frame old new before after → IsTrue (is_readable old.state b)
    → IsApart b.addr b.size before → Stays old new after b
frame_keeps old new before after b frame readable apart =
    grind (arith, nat_tests, cases_lt, or_left, eq-eqb, bytes_same, apart_empty, filled_readable, readable_part, apart_within)

-- so do all blocks of a list
pub frame_keeps_all : (old new : Memory) (before after bs : List Block) → Frame old new before after
    → AllByRecursion (λ (b : Block). IsTrue (is_readable old.state b)) bs → AreAllApart bs before
    → AllByRecursion (Stays old new after) bs
frame_keeps_all old new before after [] frame readable apart = tt
frame_keeps_all old new before after (b ∷ bs) frame readable apart =
    (frame_keeps old new before after b frame readable.0 apart.0, frame_keeps_all old new before after bs frame readable.1 apart.1)

-- a range in use is in a chunk's used part
chunk_of : (addr n : ℕ) (chunks : List Chunk) → IsTrue (is_range_used chunks addr n) → (c : Chunk) × Contains chunks c
    × IsTrue (is_used_by addr n c)
chunk_of addr n [] used = cc
chunk_of addr n (newest ∷ older) used = elim (or_cases (is_used_by addr n newest) (is_range_used older addr n) used) [
  | inl here ↦ (newest, (0, omega arith, refl), here)
  | inr there ↦ let rest = chunk_of addr n older there in (rest.0, Contains-append_right (newest ∷ []) older rest.0 rest.1, rest.2)
]

-- A block of some bytes is readable exactly if it is in a chunk's used part.
pub in_use : (state : State) (b : Block) → 0 < b.size → IsTrue (is_readable state b) ↔ IsInUse state b
in_use state b some = grind (arith, nat_tests, chunk_of, filled_readable, list_any_at)
