-- Sets as wholes: new ones, and those without a number.
use Rattle.std.proofs.Common.{◌≡◌, ℕ, ◌+◌, ◌-◌, ◌*◌, ◌/◌, ◌%◌, ◌^◌, ◌<◌, ◌≤◌, List, [], ◌∷◌, length, replicate, get_or, Bool, true, ◌&&◌, nat_lt, ap, ◌∙◌, sym, subst, arith, refl, false, eqb, inl, inr, IsTrue, Result, Ok, w64}
use Rattle.std.specs.Int.{trailing_zeros}
use Rattle.std.proofs.lemmas.Bool.{cases_lt}
use Rattle.std.proofs.lemmas.Bool.Decides.{nat_tests}
use Rattle.std.proofs.lemmas.List.{get_or_past, take-replicate, drop-replicate, length-replicate}
use Rattle.std.proofs.lemmas.Nat.Bits.{bit_at-zero, bit_at-trailing_zeros}
use Rattle.arena_rules.specs.Rounding.{up, is_power_among, is_layout}
use Rattle.arena_chunks.specs.Memory.{Memory, image}
use Rattle.arena_chunks.specs.Source.{View, Source, view}
use Rattle.arena_chunks.specs.Frame.{Frame}
use Rattle.arena_chunks.specs.Answers.Answer.{Placed}
use Rattle.arena_chunks.specs.BlockCalls.{PlacesBlock, EditsBlock}
use Rattle.arena_store.specs.declared.block.Block.{Block}
use Rattle.arena_chunks.proofs.Layers.{length-bytes, wrote_whole, places_written, frame_then}
use Rattle.arena_items.specs.Values.{bytes_of}
use Rattle.arena_items.specs.Room.{RoomAnswer, TakesRoom, SamePlaces}
use Rattle.arena_items.specs.declared.room.AllocError.{AllocError}
use Rattle.arena_items.proofs.Layers.{placed_held, written_held}
use Rattle.arena_bits.specs.Bits.{Set, bits_of, below, nothing, words_for}
use Rattle.arena_bits.specs.Sets.{IsSetIn, words_of, set_of, BecomesSet, PlacesSet}
use Rattle.arena_bits.specs.Walks.{words_in}
use Rattle.arena_bits.specs.declared.set.BitSet.{BitSet}
use Rattle.arena_bits.proofs.WordLemmas.{words, length-words, word-is}
use Rattle.arena_bits.proofs.SetLemmas.{becomes_set}

-- ---- No number

-- Words that are 0 have no bit.
pub bits_none : (ws : List ℕ) → ((i : ℕ) → i < length ws → get_or ws i 0 ≡ 0) → bits_of ws ≡ nothing
unfolding bits_of
bits_none ws zeros = λ p n. ap (λ b. eqb b 1) (ap (λ w. w / 2 ^ (n % 64) % 2) (each (n / 64)) ∙ bit_at-zero (n % 64)) p
  where
    each : (i : ℕ) → get_or ws i 0 ≡ 0
    each i = elim (cases_lt i (length ws)) [ inl below ↦ zeros i below | inr past ↦ get_or_past ws i 0 past ]

-- No number past the last word is in a set.
pub bits_past : (ws : List ℕ) (n : ℕ) → 64 * length ws ≤ n → bits_of ws n ≡ false
unfolding bits_of
bits_past ws n past = grind (arith, nat_tests, eqb, get_or_past, bit_at-zero)

-- So all of a set is below the end of its words.
pub all_below : (m : Memory) (s : BitSet) → below (64 * s.words.length) (set_of m s) ≡ set_of m s
all_below m s = λ p n. each n (nat_lt n (64 * s.words.length)) refl p
  where
    each : (n : ℕ) (low : Bool) → nat_lt n (64 * s.words.length) ≡ low → (low && set_of m s n) ≡ set_of m s n
    each n true is = refl
    each n false is = sym (bits_past (words_of m s) n (grind (arith, nat_tests, length-words s.words.length (bytes_of m s.words.block))))

-- Without words the first counts as 0.
pub no_words : (bytes : List ℕ) → length bytes < 8 → 0 ≡ get_or (words_in bytes) 0 0
no_words bytes few = sym (get_or_past (words_in bytes) 0 0 (omega (arith, length-words (length bytes / 8) bytes)))

-- A word that isn't 0 has one: its lowest.
pub some_bit : (ws : List ℕ) (i x : ℕ) → x ≡ get_or ws i 0 → 0 < x → x < 2 ^ 64 → (n : ℕ) × IsTrue (bits_of ws n)
unfolding bits_of
some_bit ws i x is some fits =
    let low = bit_at-trailing_zeros w64 x some fits in
    let word : (64 * i + trailing_zeros w64 x) / 64 ≡ i = omega (arith, low.0) in
    let bit : (64 * i + trailing_zeros w64 x) % 64 ≡ trailing_zeros w64 x = omega (arith, low.0) in
    (64 * i + trailing_zeros w64 x, rw (word, bit, ← is, low.1) refl)

-- Bytes that are 0 are words that are 0.
zero_words : (n i : ℕ) → i < length (words n (replicate (n * 8) 0)) → get_or (words n (replicate (n * 8) 0)) i 0 ≡ 0
zero_words n i within =
    let below : i < n = omega (arith, length-words n (replicate (n * 8) 0)) in
    word-is n (replicate (n * 8) 0) i below
    ∙ rw (drop-replicate {X = ℕ} (i * 8) (n * 8) 0, take-replicate {X = ℕ} 8 (n * 8 - i * 8) 0 (omega arith)) refl

-- ---- Words that are read

-- There are eight bytes for each word of a handle,
pub bytes_count : (m : Memory) (s : BitSet) → IsSetIn m s → length (bytes_of m s.words.block) ≡ 8 * s.words.length
bytes_count m s held = omega (arith, length-bytes (image m) s.words.block.addr s.words.block.size, held.place.of_size)

-- which are the words of its block's bytes.
pub words_read : (m : Memory) (s : BitSet) → IsSetIn m s → words_in (bytes_of m s.words.block) ≡ words_of m s
words_read m s held = grind (arith, nat_tests, bytes_count, words)

-- ---- Blocks that are cleared

-- A cleared block has no bit.
pub cleared : (old new : Memory) (b : Block) (n size : ℕ) → b.size ≡ n * 8 → size ≡ b.size
    → EditsBlock old new b 0 size (λ before after. after ≡ replicate (length before) 0) → bits_of (words n (bytes_of new b)) ≡ nothing
cleared old new b n size sized all edits =
    grind (arith, nat_tests, length-bytes, wrote_whole, length-replicate, bits_none, words, zero_words)

-- So a set becomes empty.
pub becomes_empty : (old new : View) (s : BitSet) → IsSetIn old.memory s → new.source ≡ old.source
    → EditsBlock old.memory new.memory s.words.block 0 s.words.block.size (λ before after. after ≡ replicate (length before) 0)
    → BecomesSet old new s nothing
becomes_empty old new s held source edits =
    becomes_set _ _ _ _ _ _ edits.writes source held (cleared _ _ _ s.words.length _ held.place.of_size refl edits)

-- ---- New sets

-- words have a layout
pub words_layout : (n : ℕ) → n ≤ 2 ^ 58 → IsTrue (is_layout (n * 8) 8)
unfolding is_power_among up
words_layout n few = grind (arith, nat_tests)

-- and room for them is taken as a block is placed
pub room_placed : (old new : View) (b : Block) (size align : ℕ) (result : Result Block AllocError)
    → RoomAnswer (λ b. b) result (TakesRoom old new b 0 size align) → RoomAnswer (λ b. b) result (PlacesBlock old new size align)
room_placed old new b size align result takes = grind (arith, nat_tests)

-- A block that was placed and cleared is a new set.
pub new_set : (old mid new : View) (bits n : ℕ) (b : Block) → n ≡ words_for bits → PlacesBlock old mid (n * 8) 8 (Placed b)
    → EditsBlock mid.memory new.memory b 0 (n * 8) (λ before after. after ≡ replicate (length before) 0) → new.source ≡ mid.source
    → PlacesSet old new bits nothing (Ok (record { words = record { block = b; length = n; of = record {} }; capacity = bits }))
new_set old mid new bits n b enough places edits source =
    let held = placed_held old mid (n * 8) 8 b places in
    let written = places_written old.memory mid.memory new.memory old.source mid.source (n * 8) 8 b 0 edits.list places edits.writes in
    record {
      placed = rw (← enough) (subst (λ (s : Source). PlacesBlock old (view new.memory s) (n * 8) 8 (Placed b)) (sym source) written);
      held = record { place = written_held mid.memory new.memory _ 8 0 b b edits.list edits.writes held; count = enough };
      capacity = refl;
      set_is = cleared mid.memory new.memory b n (n * 8) held.of_size (sym held.of_size) edits;
      frame = written.1.outcome.frame;
    }

-- A block that was placed and then filled was placed as filled: both calls are one.
placed_still : (old mid new : View) (size align : ℕ) (b : Block) → PlacesBlock old mid size align (Placed b) → SamePlaces mid new
    → Frame old.memory new.memory [] (b ∷ []) → PlacesBlock old new size align (Placed b)
placed_still old mid new size align b places same frame = grind (arith, nat_tests)

pub filled : (old mid new : View) (bits : ℕ) (first set : Set) (s : BitSet) → PlacesSet old mid bits first (Ok s)
    → BecomesSet mid new s set → PlacesSet old new bits set (Ok s)
filled old mid new bits first set s made becomes =
    let frame = frame_then old.memory mid.memory new.memory [] (s.words.block ∷ []) (s.words.block ∷ []) made.frame becomes.frame in
    record {
      placed = placed_still old mid new (words_for bits * 8) 8 s.words.block made.placed becomes.places frame;
      held = becomes.held;
      capacity = made.capacity;
      set_is = becomes.set_is;
      frame = frame;
    }

-- for automatic proof
pub ruleset read_words = (bytes_count, words_read)

pub ruleset words_placed = (words_layout, room_placed)
