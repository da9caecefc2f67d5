-- Words in blocks: how they are read, and what becomes of them.
use Rattle.std.proofs.lemmas.Bool.Decides.{nat_tests}
use Rattle.std.proofs.Common.{◌≡◌, ℕ, ◌+◌, ◌-◌, ◌*◌, ◌^◌, ◌<◌, ◌≤◌, List, length, set, take, drop, get_or, ap, ◌∙◌, arith}
use Rattle.std.specs.Prelude.{bit_or}
use Rattle.std.proofs.lemmas.Option.{get_or_from_slice_get}
use Rattle.std.proofs.lemmas.Nat.{from_le_bytes-to_le_bytes_8, or_lt}
use Rattle.std.specs.Int.{from_le_bytes, to_le_bytes, w64}
use Rattle.arena_rules.specs.Lists.{splice}
use Rattle.arena_chunks.specs.Memory.{Memory, image, bytes_from}
use Rattle.arena_chunks.specs.BlockCalls.{EditsBlock}
use Rattle.arena_store.specs.declared.block.Block.{Block}
use Rattle.arena_chunks.proofs.Layers.{wrote_part, bytes_within, length-bytes}
use Rattle.arena_items.specs.Values.{elements, bytes_of}
use Rattle.arena_items.proofs.Layers.{length-elements, elements-get, elements-set}
use Rattle.arena_bits.specs.Edits.{ChangesWord}

-- the words of bytes
abbrev pub words : ℕ → List ℕ → List ℕ
words n bytes = elements 8 (from_le_bytes w64) n bytes

-- There are n of them,
pub length-words : (n : ℕ) (bytes : List ℕ) → length (words n bytes) ≡ n
length-words n bytes = length-elements 8 (from_le_bytes w64) n bytes

-- and each is the number of its own bytes.
pub word-is : (n : ℕ) (bytes : List ℕ) (i : ℕ) → i < n → get_or (words n bytes) i 0 ≡ from_le_bytes w64 (take 8 (drop (i * 8) bytes))
word-is n bytes i below = get_or_from_slice_get (words n bytes) i _ 0 (elements-get 8 (from_le_bytes w64) n bytes i below)

-- So is one that was read,
pub word_read : (n : ℕ) (bytes : List ℕ) (i x : ℕ) → x ≡ from_le_bytes w64 (take (i * 8 + 8 - i * 8) (drop (i * 8) bytes)) → i < n
    → x ≡ get_or (words n bytes) i 0
word_read n bytes i x read below = grind (arith, nat_tests, word-is)

-- and one of a range of bytes.
pub word_there : (f : ℕ → ℕ) (addr size n i : ℕ) → i < n → n * 8 ≤ size
    → get_or (words n (bytes_from f addr size)) i 0 ≡ from_le_bytes w64 (bytes_from f (addr + i * 8) 8)
word_there f addr size n i below room =
    word-is n (bytes_from f addr size) i below ∙ ap (from_le_bytes w64) (bytes_within f addr size (i * 8) 8 (omega arith))

-- two words joined are one
pub or_word : (a b : ℕ) → a < 2 ^ 64 → b < 2 ^ 64 → bit_or a b < 2 ^ 64
or_word a b h k = or_lt 64 a b h k

-- A word is overwritten by a function of it.
pub changes_word : (f : ℕ → ℕ) (old new : List ℕ) (word : ℕ) → word ≡ from_le_bytes w64 old
    → new ≡ to_le_bytes w64 (f word) → f word < 2 ^ 64 → ChangesWord f old new
changes_word f old new word was is fits = grind (arith, nat_tests, from_le_bytes-to_le_bytes_8)

-- A word that is changed in place is replaced by the function's value.
pub word_put : (n : ℕ) (bytes : List ℕ) (i : ℕ) (f : ℕ → ℕ) (word : List ℕ) → i < n → n * 8 ≤ length bytes
    → ChangesWord f (take 8 (drop (i * 8) bytes)) word
    → words n (splice bytes (i * 8) word) ≡ set (words n bytes) i (f (get_or (words n bytes) i 0))
word_put n bytes i f word below room changes = grind (arith, nat_tests, elements-set, set, word-is)

-- So it is in a block.
pub word_changed : (old new : Memory) (b : Block) (n i : ℕ) (f : ℕ → ℕ) → EditsBlock old new b (i * 8) 8 (ChangesWord f) → i < n
    → n * 8 ≤ b.size → words n (bytes_of new b) ≡ set (words n (bytes_of old b)) i (f (get_or (words n (bytes_of old b)) i 0))
word_changed old new b n i f edits below room =
    rw (wrote_part old new b (i * 8) edits.list edits.writes (omega (arith, edits.related.length)))
    (word_put n (bytes_of old b) i f edits.list below (omega (arith, length-bytes (image old) b.addr b.size))
    (rw (bytes_within (image old) b.addr b.size (i * 8) 8 (omega arith)) edits.related))

-- for automatic proof
pub ruleset raised_words = (changes_word, or_word)
