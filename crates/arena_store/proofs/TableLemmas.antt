-- Lists of chunks, newest first, by their first one.
use Rattle.std.proofs.Common.{◌≡◌, ℕ, ◌+◌, ◌-◌, ◌<◌, ◌≤◌, arith, refl, List, [], ◌∷◌, true, false, length, length-drop, map, drop, inl, inr}
use Rattle.std.specs.Prelude.{nat_le}
use Rattle.std.proofs.lemmas.Bool.Decides.{nat_tests}
use Rattle.std.proofs.lemmas.List.{length-take-le}
use Rattle.arena_rules.specs.State.{Chunk}
use Rattle.arena_store.specs.Memory.{byte_in}
use Rattle.arena_store.specs.Stored.{stored_chunk, stored_bytes, part_of, with_part, HasPart, HasPartIn, part_in, with_part_in}
use Rattle.arena_store.specs.declared.chunk.StoredChunk.{StoredChunk}

abbrev pub chunks_in : List StoredChunk → List Chunk
chunks_in chunks = map stored_chunk chunks

abbrev pub bytes_in : List StoredChunk → ℕ → ℕ
bytes_in chunks a = byte_in (map stored_chunk chunks) (map stored_bytes chunks) a

pub part_length : (c : StoredChunk) (addr n : ℕ) → addr - c.base + n ≤ length c.bytes.items → length (part_of c addr n) ≡ n
part_length c addr n fits = length-take-le n (drop (addr - c.base) c.bytes.items) (omega (arith, length-drop (addr - c.base) c.bytes.items))

-- a part has as many bytes as requested
pub length-part_in : (chunks : List StoredChunk) (addr n : ℕ) → HasPartIn chunks addr n → length (part_in chunks addr n) ≡ n
length-part_in [] addr n has = absurd has
length-part_in (c ∷ older) addr n has = elim has [
  | inl here ↦
      let low = here.0 in
      let test : nat_le c.base addr ≡ true = grind (arith, nat_tests) in
      rw test (part_length c addr n (omega (arith, low, here.1.high)))
  | inr past ↦
      let high = past.0 in
      let test : nat_le c.base addr ≡ false = grind (arith, nat_tests) in
      rw test (length-part_in older addr n past.1)
]

module _ (c : StoredChunk) (older : List StoredChunk) (addr : ℕ) where
  -- an address in the first chunk
  module _ (low : c.base ≤ addr) where
    at_first : nat_le c.base addr ≡ true
    at_first = grind (arith, nat_tests)

    pub first_has : (n : ℕ) → HasPartIn (c ∷ older) addr n → HasPart c addr n
    first_has n has = elim has [ inl here ↦ here.1 | inr past ↦ absurd (omega (arith, past.0, low)) ]

    pub first_part : (n : ℕ) → part_in (c ∷ older) addr n ≡ part_of c addr n
    first_part n = rw at_first refl

    pub first_with : (list : List ℕ) → with_part_in (c ∷ older) addr list ≡ with_part c addr list ∷ older
    first_with list = rw at_first refl

  -- and in one of the others
  module _ (high : addr < c.base) where
    past_first : nat_le c.base addr ≡ false
    past_first = grind (arith, nat_tests)

    pub others_have : (n : ℕ) → HasPartIn (c ∷ older) addr n → HasPartIn older addr n
    others_have n has = elim has [ inl here ↦ absurd (omega (arith, here.0, high)) | inr past ↦ past.1 ]

    pub others_part : (n : ℕ) → part_in (c ∷ older) addr n ≡ part_in older addr n
    others_part n = rw past_first refl

    pub others_with : (list : List ℕ) → with_part_in (c ∷ older) addr list ≡ c ∷ with_part_in older addr list
    others_with list = rw past_first refl
