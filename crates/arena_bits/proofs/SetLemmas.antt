-- Sets in blocks: what becomes of them when their bytes are written.
use Rattle.std.proofs.lemmas.Bool.Decides.{nat_tests}
use Rattle.std.proofs.Common.{◌≡◌, ℕ, ◌*◌, ◌/◌, ◌<◌, List, length, set, get_or, ap, ◌∙◌, arith}
use Rattle.arena_chunks.specs.Source.{View}
use Rattle.arena_chunks.specs.BlockCalls.{WritesBlock, EditsBlock}
use Rattle.arena_items.specs.Values.{bytes_of}
use Rattle.arena_items.proofs.Layers.{written_held}
use Rattle.arena_bits.specs.Bits.{Set, bits_of}
use Rattle.arena_bits.specs.Edits.{ChangesWord}
use Rattle.arena_bits.specs.Sets.{IsSetIn, words_of, set_of, BecomesSet}
use Rattle.arena_bits.specs.declared.set.BitSet.{BitSet}
use Rattle.arena_bits.proofs.WordLemmas.{length-words, word_changed}

-- If the words are this set after a write in the set's block, the call turns the bits into this set.
pub becomes_set : (old new : View) (s : BitSet) (set : Set) (at : ℕ) (list : List ℕ)
    → WritesBlock old.memory new.memory s.words.block at list → new.source ≡ old.source → IsSetIn old.memory s
    → set_of new.memory s ≡ set → BecomesSet old new s set
becomes_set old new s set at list writes source held is = grind (arith, nat_tests, written_held)

-- One word is changed in place: the one with a number's bit.
pub word_edited : (old new : View) (s : BitSet) (n : ℕ) (f : ℕ → ℕ) (changed : Set) → IsSetIn old.memory s → n < 64 * s.words.length
    → new.source ≡ old.source → EditsBlock old.memory new.memory s.words.block (n / 64 * 8) 8 (ChangesWord f)
    → (n / 64 < length (words_of old.memory s)
    → bits_of (set (words_of old.memory s) (n / 64) (f (get_or (words_of old.memory s) (n / 64) 0))) ≡ changed)
    → BecomesSet old new s changed
word_edited old new s n f changed held within source edits is =
    becomes_set _ _ _ _ _ _ edits.writes source held (ap bits_of
    (word_changed _ _ _ s.words.length (n / 64) f edits (omega arith) (omega (arith, held.place.of_size))) ∙ is
    (omega (arith, length-words s.words.length (bytes_of old.memory s.words.block))))
