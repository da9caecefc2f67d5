-- Interners in an arena, and their texts.
use Rattle.std.specs.Prelude.{◌≡◌, ℕ, ◌+◌, List, [], ◌∷◌, ◌++◌, map}
use Rattle.std.specs.List.{Contains}
use Rattle.arena_chunks.specs.Memory.{Memory}
use Rattle.arena_chunks.specs.Frame.{AreAllApart, ArePairwiseApart}
use Rattle.arena_store.specs.declared.block.Block.{Block}
use Rattle.arena_chunks.specs.declared.allocator.text.Str.{Str}
use Rattle.arena_items.specs.Footprint.{AreReadable}
use Rattle.arena_items.specs.Values.{bytes_of}
use Rattle.arena_vec.specs.Credit.{credit_of as list_credit}
use Rattle.arena_vec.specs.Vecs.{IsVecIn, vec_list}
use Rattle.arena_hash.specs.Accounts.{credit_of}
use Rattle.arena_hash.specs.Contents.{Kind}
use Rattle.arena_hash.specs.Finite.{value_of}
use Rattle.arena_hash.specs.Maps.{IsMapIn, map_in, texts_in as map_texts}
use Rattle.hash_ring.specs.declared.hasher.FxHasher.{FxHasher}
use Rattle.arena_symbols.specs.Interner.{number_of, AreDistinct}
use Rattle.arena_symbols.specs.Listing.{place_kind}
use Rattle.arena_symbols.specs.declared.symbols.Symbols.{Symbols}

-- the types of an interner's map: texts are keys, and numbers are values
abbrev pub name_kind : Kind Str ℕ FxHasher
name_kind = place_kind Rattle.arena_items.specs.contracts.handles.StrItem.TheImpl.ghosts
    Rattle.arena_table.specs.contracts.key.StrArenaKey.TheImpl.ghosts.key

-- the blocks of texts, and their bytes
abbrev pub blocks_of : List Str → List Block
blocks_of list = map (λ (t : Str). t.block) list

abbrev pub contents_of : Memory → List Str → List (List ℕ)
contents_of memory list = map (λ (t : Str). bytes_of memory t.block) list

-- an interner's texts, by their numbers: their handles, their blocks, and their bytes
abbrev pub texts_in : Memory → Symbols → List Str
texts_in memory s = vec_list name_kind.keys memory s.texts

abbrev pub names_in : Memory → Symbols → List (List ℕ)
names_in memory s = contents_of memory (texts_in memory s)

-- the blocks that calls on an interner write, and all blocks that it reads
abbrev pub own_blocks : Symbols → List Block
own_blocks s = s.numbers.table.block ∷ s.texts.raw.block ∷ []

abbrev pub names_footprint : Memory → Symbols → List Block
names_footprint memory s = own_blocks s ++ blocks_of (texts_in memory s)

-- The handle stands for an interner of these texts, which are distinct: a vector of them, and a map with the place of
-- each. The blocks of the two are apart from each other and from the texts.
pub record IsInternerOf (memory : Memory) (s : Symbols) (list : List Str) (names : List (List ℕ)) : Type 0 where
  pub numbers : IsMapIn name_kind memory s.numbers
  pub texts : IsVecIn name_kind.keys memory s.texts
  pub readable : AreReadable memory.state (blocks_of list)
  pub apart : ArePairwiseApart (own_blocks s)
  pub texts_apart : AreAllApart (blocks_of list) (own_blocks s)
  pub keys : (b : Block) → Contains (map_texts name_kind memory s.numbers) b → Contains (blocks_of list) b
  pub count : s.numbers.len ≡ s.texts.raw.len
  pub places : (q : List ℕ) → value_of (map_in name_kind memory s.numbers q) ≡ number_of names q
  pub distinct : AreDistinct names

-- The handle stands for an interner.
abbrev pub IsInternerIn : Memory → Symbols → Type 0
IsInternerIn memory s = IsInternerOf memory s (texts_in memory s) (names_in memory s)

-- the bytes that an interner has saved up for its next blocks
abbrev pub names_credit : Symbols → ℕ
names_credit s = list_credit 32 s.texts.raw.len s.texts.raw.cap + credit_of name_kind s.numbers
