-- What represents objects in an arena.
use Rattle.std.specs.Int.{w32, to_le_bytes}
use Rattle.std.specs.Prelude.{◌≡◌, ◌≢◌, ℕ, zero, suc, ◌+◌, ◌-◌, ◌*◌, ◌^◌, ◌<◌, length, if◌then◌else◌, Option, Some, None, List, [], ◌∷◌, map, IsTrue, IfSome}
use Rattle.std.specs.Option.{option_map, option_map_or}
use Rattle.arena_chunks.specs.Memory.{Memory}
use Rattle.arena_chunks.specs.Frame.{AreBlocksApart}
use Rattle.arena_store.specs.declared.block.Block.{Block}
use Rattle.arena_items.specs.Values.{IsBoxIn, box_value}
use Rattle.arena_vec.specs.Credit as vectors
use Rattle.arena_vec.specs.Vecs.{IsVecIn, vec_list}
use Rattle.arena_text.specs.Builders.{IsBuilderIn, builder_bytes}
use Rattle.arena_text.specs.Growth.{IsRoomFor}
use Rattle.arena_text.specs.declared.text.StringBuilder.{StringBuilder}
use Rattle.arena_bits.specs.Bits.{Set}
use Rattle.arena_bits.specs.Sets.{IsSetIn, set_of}
use Rattle.arena_bits.specs.declared.set.BitSet.{BitSet}
use Rattle.arena_hash.specs.Maps.{IsMapIn, map_in, footprint}
use Rattle.arena_hash.specs.Finite.{Finite, value_of}
use Rattle.arena_hash.specs.declared.map.HashMap.{HashMap}
use Rattle.hash_ring.specs.declared.hasher.FxHasher.{FxHasher}
use Rattle.arena_hash.specs.Accounts as accounts
use Rattle.script_rules.specs.Objects.{Entries, get, Bits, bits_end, Object, Objects, AList, AText, ASet, AMap, AValue, are_rising, AreObjects}
use Rattle.arena_script.specs.Kinds.{short, long, pairs}
use Rattle.arena_script.specs.declared.thing.Thing.{Thing}
use Rattle.arena_script.specs.declared.thing.Thing.TheVariants as thing

-- ---- One thing

-- its block
abbrev pub block_of : Thing → Block
block_of (thing.List v) = v.raw.block
block_of (thing.Text t) = t.block
block_of (thing.Bits s) = s.words.block
block_of (thing.Map m) = m.table.block
block_of (thing.Value b) = b.block

-- ---- Entries of a function

-- an entry before others, if there is one
abbrev pub entry_then : {X : Type 0} → ℕ → Option X → Entries X → Entries X
entry_then key None es = es
entry_then key (Some x) es = (key, x) ∷ es

-- what a function gives at n keys from one on, by rising keys
unfoldable pub entries_from : {X : Type 0} → ℕ → ℕ → (ℕ → Option X) → Entries X
entries_from zero from f = []
entries_from (suc n) from f = entry_then from (f from) (entries_from n (from + 1) f)

abbrev pub entries_below : {X : Type 0} → ℕ → (ℕ → Option X) → Entries X
entries_below end f = entries_from end 0 f

-- the numbers of a set below an end, as bits
abbrev pub bits_below : ℕ → Set → Bits
bits_below end set = entries_below end (λ n. if set n then Some tt else None)

-- the content of a key of 32 bits
abbrev pub content : ℕ → List ℕ
content key = to_le_bytes w32 key

-- a map from contents to pairs of 32 bits, by rising keys
abbrev pub pairs_of : Finite ℕ ℕ → Entries ℕ
pairs_of is = entries_below (2 ^ 32) (λ key. value_of (is (content key)))

-- ---- A thing in an arena

-- a text is held, and its room is at most twice its bytes and eight
pub record IsWordsIn (m : Memory) (t : StringBuilder) : Type 0 where
  pub held : IsBuilderIn m t
  pub room : IsRoomFor t.len t.cap

-- a map is held, and its length is that of the pairs
pub record IsPairsIn (m : Memory) (h : HashMap ℕ ℕ FxHasher) : Type 0 where
  pub held : IsMapIn pairs m h
  pub count : h.len ≡ length (pairs_of (map_in pairs m h))

-- a set is held, and its capacity has 32 bits, as that of commands
pub record IsBitsIn (m : Memory) (s : BitSet) : Type 0 where
  pub held : IsSetIn m s
  pub small : s.capacity < 2 ^ 32

-- it is well formed, and may be read
abbrev pub IsThingIn : Memory → Thing → Type 0
IsThingIn m (thing.List v) = IsVecIn short m v
IsThingIn m (thing.Text t) = IsWordsIn m t
IsThingIn m (thing.Bits s) = IsBitsIn m s
IsThingIn m (thing.Map h) = IsPairsIn m h
IsThingIn m (thing.Value b) = IsBoxIn long m b

-- the object that it represents
abbrev pub object_in : Memory → Thing → Object
object_in m (thing.List v) = AList (vec_list short m v)
object_in m (thing.Text t) = AText (builder_bytes m t)
object_in m (thing.Bits s) = ASet s.capacity (bits_below (bits_end s.capacity) (set_of m s))
object_in m (thing.Map h) = AMap (pairs_of (map_in pairs m h))
object_in m (thing.Value b) = AValue (box_value long m b)

-- The part of its cost that is left for the blocks of later growth: of a list, what a vector of numbers saves up; of a
-- text, its cost less twice its room; of a map, what it saves up itself.
abbrev pub credit_of : Thing → ℕ
credit_of (thing.List v) = vectors.credit_of 4 v.raw.len v.raw.cap
credit_of (thing.Text t) = (32 + 4 * t.len) - 2 * t.cap
credit_of (thing.Bits s) = 0
credit_of (thing.Map m) = accounts.credit_of pairs m
credit_of (thing.Value b) = 0

-- all blocks that it reads: its own; a map's keys have no texts, so theirs are empty
abbrev pub blocks_in : Memory → Thing → List Block
blocks_in m (thing.List v) = v.raw.block ∷ []
blocks_in m (thing.Text t) = t.block ∷ []
blocks_in m (thing.Bits s) = s.words.block ∷ []
blocks_in m (thing.Map h) = footprint pairs m h
blocks_in m (thing.Value b) = b.block ∷ []

-- ---- Things under names

abbrev pub Things : Type 0
Things = Entries Thing

-- the objects that they represent
abbrev pub objects_in : Memory → Things → Objects
objects_in m things = map (λ (e : ℕ × Thing). (e.0, object_in m e.1)) things

-- what a name holds
abbrev pub seen : Memory → Things → ℕ → Option Object
seen m things name = option_map (object_in m) (get things name)

-- the block, its size and the credit of a thing, if there is one
abbrev pub blocks_of : Option Thing → List Block
blocks_of None = []
blocks_of (Some t) = block_of t ∷ []

abbrev pub size_of : Thing → ℕ
size_of t = (block_of t).size

abbrev pub size_held : Option Thing → ℕ
size_held o = option_map_or size_of o 0

abbrev pub credit_held : Option Thing → ℕ
credit_held o = option_map_or credit_of o 0

-- two things share no memory, if there are two
abbrev pub AreHeldApart : Option Thing → Option Thing → Type 0
AreHeldApart one other = IfSome one (λ t. IfSome other (λ u. AreBlocksApart (block_of t) (block_of u)))

-- The thing of each name is well formed, things of two names share no memory, and they represent objects.
pub record AreThings (m : Memory) (things : Things) : Type 0 where
  pub rising : IsTrue (are_rising things)
  pub held : (n : ℕ) → IfSome (get things n) (IsThingIn m)
  pub apart : (n k : ℕ) → n ≢ k → AreHeldApart (get things n) (get things k)
  pub objects : AreObjects (objects_in m things)
