-- Sets that are joined, word by word.
use Rattle.std.proofs.Common.{◌≡◌, ℕ, ◌+◌, ◌-◌, ◌*◌, ◌/◌, ◌<◌, ◌≤◌, ◌⊎◌, List, [], ◌∷◌, length, take, drop, Bool, eqb, get_or, set, max, ap, ◌∙◌, sym, arith, refl}
use Rattle.std.specs.Prelude.{bit_or, nat_lt, nat_le, ◌||◌, ◌&&◌}
use Rattle.std.specs.Int.{from_le_bytes, w64}
use Rattle.std.proofs.lemmas.Bool.{cases_lt}
use Rattle.std.proofs.lemmas.Bool.Decides.{nat_tests}
use Rattle.std.proofs.lemmas.Grind.{common_steps}
use Rattle.std.proofs.lemmas.List.{get_or-set_same, get_or-set_other}
use Rattle.std.proofs.lemmas.Nat.Bits.{bit_at_or, bit_at-lt}
use Rattle.arena_rules.specs.Lists.{splice}
use borrow.Rule.Slice.PartMut.{put_mid}
use Rattle.arena_chunks.specs.Memory.{Memory, image, bytes_from}
use Rattle.arena_chunks.specs.Source.{View}
use Rattle.arena_chunks.specs.Frame.{AreBlocksApart, Stays}
use Rattle.arena_chunks.specs.BlockCalls.{WritesBlock, EditsBlock}
use Rattle.arena_store.specs.declared.block.Block.{Block}
use Rattle.arena_chunks.proofs.Layers.{wrote_part, length-bytes, frame_then, frame_reflexive, frame_keeps_beside}
use Rattle.arena_items.specs.Values.{bytes_of}
use Rattle.arena_items.specs.Rows.{over}
use Rattle.arena_items.proofs.Layers.{elements-over, same_then}
use Rattle.arena_bits.specs.Bits.{Set, bits_of, joined, below}
use Rattle.arena_bits.specs.Walks.{words_in}
use Rattle.arena_bits.specs.Edits.{ChangesWord, IsRow, JoinsWords, JoinsRow}
use Rattle.arena_bits.specs.Sets.{IsSetIn, words_of, set_of, BecomesSet, JoinsFirst}
use Rattle.arena_bits.specs.declared.set.BitSet.{BitSet}
use Rattle.arena_bits.proofs.WordLemmas.{words, length-words, word_there, word_put, word_changed}
use Rattle.arena_bits.proofs.SetLemmas.{becomes_set}

-- ---- Words

-- one word
joins_word : (old others : List ℕ) (i : ℕ) → i < length old
    → JoinsWords i (i + 1) old others (set old i (bit_or (get_or old i 0) (get_or others i 0)))
joins_word old others i within = grind (arith, nat_tests, get_or-set_same, get_or-set_other)

-- words that are replaced by those joined
joins_over : (old others list : List ℕ) (i n : ℕ) → length list ≡ n → i + n ≤ length old
    → ((k : ℕ) → k < n → get_or list k 0 ≡ bit_or (get_or old (i + k) 0) (get_or others (i + k) 0))
    → JoinsWords i (i + n) old others (over old i list)
joins_over old others list i n long within each = record {
  joined = λ k least small.
      let at : i + (k - i) ≡ k = omega arith in
      let there : get_or (over old i list) k 0 ≡ get_or list (k - i) 0 = grind (arith, common_steps) in
      there ∙ (rw at at (each (k - i) (omega arith)));
  before = λ k small. grind (arith, common_steps);
  behind = λ k least. grind (arith, common_steps);
}

-- some words, and then those after them
joins_then : (from mid to : ℕ) (old now others new : List ℕ) → from ≤ mid → mid ≤ to → JoinsWords from mid old others now
    → JoinsWords mid to now others new → JoinsWords from to old others new
joins_then from mid to old now others new order more one two = grind (arith, nat_tests, cases_lt, get_or)

-- Of n words one more is joined in its place.
pub joins_more : (n : ℕ) (old now row word : List ℕ) (i : ℕ) → i < n → (length now ≡ n * 8)
    × JoinsWords 0 i (words_in old) row (words_in now)
    → ChangesWord (λ w. bit_or w (get_or row i 0)) (take (i * 8 + 8 - i * 8) (drop (i * 8) now)) word
    → (length (put_mid (i * 8) (i * 8 + 8 - i * 8) now word) ≡ n * 8)
    × JoinsWords 0 (i + 1) (words_in old) row (words_in (put_mid (i * 8) (i * 8 + 8 - i * 8) now word))
joins_more n old now row word i small (long, joins) changes =
    let eight : i * 8 + 8 - i * 8 ≡ 8 = omega arith in
    let put : put_mid (i * 8) (i * 8 + 8 - i * 8) now word ≡ splice now (i * 8) word = grind (arith, common_steps, changes.length) in
    let sized : length (splice now (i * 8) word) ≡ length now = grind (arith, common_steps, changes.length) in
    let count : length now / 8 ≡ n = omega (arith, long) in
    let within : i < length (words_in now) = omega (arith, length-words (length now / 8) now) in
    rw (put, sized, word_put (length now / 8) now i _ word (omega arith) (omega arith) (rw eight at changes))
    (long, joins_then 0 i (i + 1) _ (words_in now) row _ (omega arith) (omega arith) joins (joins_word (words_in now) row i within))

-- ---- Bits

-- a bit of a word in a row, of one before it, and of one after it
row_bit : (m from to a b : ℕ) → from ≤ m → m < to → a < 2 → b < 2
    → eqb (max a b) 1 ≡ (eqb a 1 || (nat_le from m && (nat_lt m to && eqb b 1)))
row_bit m from to a b least small low low' = grind (arith, nat_tests)

other_bit : (m from to : ℕ) (a b : Bool) → (m < from) ⊎ (to ≤ m) → a ≡ (a || (nat_le from m && (nat_lt m to && b)))
other_bit m from to a b out = grind (arith, nat_tests)

-- The bits of words are joined where the words were.
joins_bits : (from to : ℕ) (old others new : List ℕ) → JoinsWords from to old others new → (n : ℕ)
    → bits_of new n ≡ (bits_of old n || (nat_le from (n / 64) && (nat_lt (n / 64) to && bits_of others n)))
unfolding bits_of
joins_bits from to old others new joins n = grind (arith, nat_tests, cases_lt, other_bit, get_or, bit_at_or, row_bit, bit_at-lt)

-- If the words below an index were joined, and then a row that starts there or before, those below its end are.
more_bits : (i from to n : ℕ) (a b : Bool) → from ≤ i → i ≤ to
    → ((a || (nat_lt n (64 * i) && b)) || (nat_le from (n / 64) && (nat_lt (n / 64) to && b))) ≡ (a || (nat_lt n (64 * to) && b))
more_bits i from to n a b order more = grind (arith, nat_tests)

-- ---- Rows

-- Some words of a block are joined in place.
row_joined : (old new : Memory) (b : Block) (n i m : ℕ) (row others : List ℕ) → IsRow m row others i
    → EditsBlock old new b (i * 8) (m * 8) (JoinsRow m row) → i + m ≤ n → n * 8 ≤ b.size
    → JoinsWords i (i + m) (words n (bytes_of old b)) others (words n (bytes_of new b))
row_joined old new b n i m row others is edits within room =
    rw are (joins_over were others (words_in edits.list) i m few (omega (arith, length-words n (bytes_of old b))) (λ k small.
    edits.related.words.joined k (omega arith) small ∙ (λ p. bit_or (own k small p) (is.are k small p))))
  where
    were : List ℕ
    were = words n (bytes_of old b)

    part : List ℕ
    part = bytes_from (image old) (b.addr + i * 8) (m * 8)

    few : length (words_in edits.list) ≡ m
    few = omega (arith, edits.related.length, length-words (length edits.list / 8) edits.list)

    are : words n (bytes_of new b) ≡ over were i (words_in edits.list)
    are =
        ap (words n) (wrote_part old new b (i * 8) edits.list edits.writes (omega (arith, edits.related.length)))
        ∙ elements-over 8 (from_le_bytes w64) i (length edits.list / 8) n (bytes_of old b) edits.list (omega (arith, edits.related.length))
        (omega (arith, edits.related.length)) (omega (arith, length-bytes (image old) b.addr b.size))

    -- the words that were there
    own : (k : ℕ) → k < m → get_or (words_in part) k 0 ≡ get_or were (i + k) 0
    own k small =
        let sized = length-bytes (image old) (b.addr + i * 8) (m * 8) in
        let at : b.addr + i * 8 + k * 8 ≡ b.addr + (i + k) * 8 = omega arith in
        word_there (image old) (b.addr + i * 8) (m * 8) (length part / 8) k (omega (arith, sized)) (omega (arith, sized))
        ∙ ap (λ addr. from_le_bytes w64 (bytes_from (image old) addr 8)) at
        ∙ sym (word_there (image old) b.addr b.size n (i + k) (omega arith) room)

-- ---- Sets in an arena

-- Nothing is joined at first.
pub joining_none : (old : View) (s other : BitSet) → IsSetIn old.memory s → IsSetIn old.memory other → JoinsFirst old old s other 0
joining_none old s other held other_held = record {
  held = other_held;
  same = refl;
  becomes = record {
    held = held;
    set_is = λ p n. none_there n (set_of old.memory s n) (set_of old.memory other n) p;
    places = record { state = refl; statistics = refl; source = refl };
    frame = frame_reflexive old.memory (s.words.block ∷ []);
  };
}
  where
    none_there : (n : ℕ) (a b : Bool) → a ≡ (a || (nat_lt n (64 * 0) && b))
    none_there n a b = grind (arith, nat_tests)

-- Nor is anything if both are one set: all of its numbers are there.
all_there : (n limit : ℕ) (is_in : Bool) → is_in ≡ (is_in || (nat_lt n limit && is_in))
all_there n limit is_in = grind (arith, nat_tests)

pub joined_itself : (view : View) (s other : BitSet) (limit : ℕ) → IsSetIn view.memory s → IsSetIn view.memory other
    → other.words.block ≡ s.words.block → BecomesSet view view s (joined (set_of view.memory s) (below limit (set_of view.memory other)))
joined_itself view s other limit held other_held one = grind (arith, nat_tests, words, all_there, set, frame_reflexive)

module _ (old mid new : View) (s other : BitSet) (i : ℕ) (now : JoinsFirst old mid s other i)
    (apart : AreBlocksApart other.words.block s.words.block) (source : new.source ≡ mid.source) where
  -- Further words are joined, and some of those before once more,
  joining_more : (from to at : ℕ) (list : List ℕ) → WritesBlock mid.memory new.memory s.words.block at list → from ≤ i → i ≤ to
      → JoinsWords from to (words_of mid.memory s) (words_of old.memory other) (words_of new.memory s) → JoinsFirst old new s other to
  joining_more from to at list writes order more joins =
      let stays : Stays mid.memory new.memory (s.words.block ∷ []) other.words.block =
      frame_keeps_beside mid.memory new.memory s.words.block (s.words.block ∷ []) other.words.block writes.frame
      now.held.place.readable apart in
      let after : BecomesSet mid new s (set_of new.memory s) = becomes_set mid new s _ at list writes source now.becomes.held refl in
      record {
        held = record {
          place = record { readable = stays.readable; of_size = now.held.place.of_size; of_align = now.held.place.of_align };
          count = now.held.count;
        };
        same = ap (words other.words.length) stays.bytes ∙ now.same;
        becomes = record {
          held = after.held;
          set_is = λ p n. bit n p;
          places = same_then old mid new now.becomes.places after.places;
          frame = frame_then old.memory mid.memory new.memory (s.words.block ∷ []) (s.words.block ∷ []) (s.words.block ∷ [])
              now.becomes.frame after.frame;
        };
      }
    where
      bit : (n : ℕ) → set_of new.memory s n ≡ joined (set_of old.memory s) (below (64 * to) (set_of old.memory other)) n
      bit n =
          joins_bits from to (words_of mid.memory s) (words_of old.memory other) (words_of new.memory s) joins n
          ∙ ap (λ (set : Set). set n || (nat_le from (n / 64) && (nat_lt (n / 64) to && set_of old.memory other n))) now.becomes.set_is
          ∙ more_bits i from to n (set_of old.memory s n) (set_of old.memory other n) order more

  -- a row of them,
  pub joining_row : (n at : ℕ) (row : List ℕ) → IsRow n row (words_of mid.memory other) at
      → EditsBlock mid.memory new.memory s.words.block (at * 8) (n * 8) (JoinsRow n row) → at ≤ i → i ≤ at + n → at + n ≤ s.words.length
      → JoinsFirst old new s other (at + n)
  joining_row n at row is edits order more within =
      joining_more at (at + n) (at * 8) edits.list edits.writes order more
      (row_joined mid.memory new.memory s.words.block s.words.length at n row (words_of old.memory other) (rw now.same at is) edits within
      (omega (arith, now.becomes.held.place.of_size)))

  -- or one.
  pub joining_word : (mask : ℕ) → mask ≡ get_or (words_of mid.memory other) i 0
      → EditsBlock mid.memory new.memory s.words.block (i * 8) 8 (ChangesWord (λ word. bit_or word mask)) → i < s.words.length
      → JoinsFirst old new s other (i + 1)
  joining_word mask is edits within =
      let long : i < length (words_of mid.memory s) = omega (arith, length-words s.words.length (bytes_of mid.memory s.words.block)) in
      joining_more i (i + 1) (i * 8) edits.list edits.writes (omega arith) (omega arith)
      (rw (
        word_changed mid.memory new.memory s.words.block s.words.length i (λ word. bit_or word mask) edits within
            (omega (arith, now.becomes.held.place.of_size)),
        is,
        now.same,
      ) (joins_word (words_of mid.memory s) (words_of old.memory other) i long))
