-- Keys, and their contents.
use Rattle.std.specs.Prelude.{ℕ, List}
use Rattle.arena_chunks.specs.Memory.{Memory}
use Rattle.arena_store.specs.declared.block.Block.{Block}
use Rattle.arena_items.specs.declared.item.Item.{Ghosts}
use Rattle.arena_items.specs.Values.{bytes_of}
pub use Rattle.hash_ring.specs.Hashes.{IsFixed}

-- What a key's type says about a key: the block of its text, which may be empty, and its content, given the bytes of
-- that block.
pub record Key (K : Type 0) : Type 0 where
  pub text : K → Block
  pub content : K → List ℕ → List ℕ

-- The content of a key without a text is its byte form; that of a text is the text's bytes.
abbrev pub whole_key : {K : Type 0} → Ghosts K → Key K
whole_key item = record {
  text = λ k. record { generation = 0; addr = 1; size = 0; align = 1 };
  content = λ k bytes. item.encoded k;
}

abbrev pub text_key : {K : Type 0} → (K → Block) → Key K
text_key block = record { text = block; content = λ k bytes. bytes }

-- the content of a key in an arena
abbrev pub content_in : {K : Type 0} → Key K → Memory → K → List ℕ
content_in key memory k = key.content k (bytes_of memory (key.text k))

-- What a map's types determine: the byte forms of keys and values, the contents of keys, and the hashes of contents.
pub record Kind (K V S : Type 0) : Type 1 where
  pub keys : Ghosts K
  pub values : Ghosts V
  pub key : Key K
  pub hash : S → List ℕ → ℕ

abbrev pub kind : {K V S : Type 0} → Ghosts K → Key K → Ghosts V → (S → List ℕ → ℕ) → Kind K V S
kind keys key values hash = record { keys = keys; values = values; key = key; hash = hash }
