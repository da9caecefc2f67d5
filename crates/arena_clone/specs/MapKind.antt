-- What maps are at every depth.
use Rattle.std.specs.Prelude.{◌≡◌, ℕ, zero, suc, ◌^◌, ◌<◌, ◌≤◌, ◌⊎◌, false, Option, List, ◌∷◌}
use Rattle.std.specs.List.{Contains}
use Rattle.arena_chunks.specs.Memory.{Memory}
use Rattle.arena_hash.specs.Contents.{Key, content_in}
use Rattle.arena_hash.specs.Contents.{Kind as MapTypes}
use Rattle.arena_hash.specs.Maps.{IsMapIn, map_in, pairs_in}
use Rattle.arena_hash.specs.Policy.{table_align, slot_size, IsSlotsFor}
use Rattle.arena_hash.specs.declared.map.HashMap.{HashMap}
use Rattle.arena_clone.specs.Asks.{Ask}
use Rattle.arena_clone.specs.Asks.Ask.{Table, NoBytes}
use Rattle.arena_clone.specs.Kinds.{Kind, AreAlike, of_some, both_of, row_of}
use Rattle.arena_kinds.specs.declared.ids.CloneInSemanticIds.{CloneInSemanticIds}

-- What a key's content depends on: the block of its text, which is empty or one that the key names. A copy of a key has
-- the same content.
pub record KeepsContent {K : Type 0} (key : Key K) (kind : Kind K) : Type 0 where
  pub text : (m : Memory) (k : K) → ((key.text k).size ≡ 0) ⊎ Contains (kind.deep m k) (key.text k)
  pub same : (ids : CloneInSemanticIds) (a c : Memory) (k copy : K) → AreAlike kind ids a k c copy
      → content_in key c copy ≡ content_in key a k

-- a pair is its key and its value
abbrev pub pair_of : {K V : Type 0} → Kind K → Kind V → Kind (K × V)
pair_of keys values = both_of keys values (λ p. p.0) (λ p. p.1)

-- The table for n pairs is that of a new map for them. For none there are no bytes.
abbrev pub table_ask : {K V S : Type 0} → MapTypes K V S → ℕ → Ask
table_ask k zero = NoBytes
table_ask k (suc n) = Table (suc n) (slot_size k.keys.SIZE k.values.SIZE) (table_align k.keys.ALIGN k.values.ALIGN)

-- the slots of a new map for `len` pairs: none if there are none
abbrev pub IsTableFor : ℕ → ℕ → Type 0
IsTableFor len slots = (len ≡ 0 → slots ≡ 0) × (0 < len → IsSlotsFor len slots)

-- A map is what is stored under each content, whatever its hasher. A copy has the table and the hasher of a new map for
-- its pairs.
abbrev pub map_of : {K V S : Type 0} → MapTypes K V S → (S → Type 0) → Kind K → Kind V → Kind (HashMap K V S)
map_of {K} {V} {S} k is_default keys values = record {
  Whole = List ℕ → Option values.Whole;
  whole = λ m h q. of_some (λ (p : K × V). values.whole m p.1) (map_in k m h q);
  deep = λ m h. h.table.block ∷ (row_of (pair_of keys values)).deep m (pairs_in k m h);
  is_small = (k.keys.SIZE ≤ 2 ^ 24) × (k.values.SIZE ≤ 2 ^ 24) × keys.is_small × values.is_small;
  is_held = λ m h. IsMapIn k m h × (row_of (pair_of keys values)).is_held m (pairs_in k m h);
  by_ids = λ ids is q. of_some (values.by_ids ids) (is q);
  is_trim = λ m h. IsTableFor h.len h.table.slots × is_default h.hasher × (row_of (pair_of keys values)).is_trim m (pairs_in k m h);
  asks = λ m h. table_ask k h.len ∷ (row_of (pair_of keys values)).asks m (pairs_in k m h);
  is_flat = λ ids. false;
}
