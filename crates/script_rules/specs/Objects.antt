-- What names hold in a script: lists, texts, sets of bits, maps and values, with no arena.
use Rattle.std.specs.Prelude.{ℕ, ◌+◌, ◌*◌, ◌<◌, ◌≤◌, nat_lt, Bool, IsTrue, if◌then◌else◌, not, Option, is_some, List, [], ◌∷◌, length}
use Rattle.std.specs.Ordering.{nat_cmp, eq_by_cmp}
use Rattle.std.specs.FinMap.{find, put, is_sorted}
use Rattle.std.specs.FinMap.Entries.{where_key}
use Rattle.std.specs.List.{AllByRecursion}
use Rattle.arena_rules.specs.Bits.{Set, words_for}

-- ---- Entries, sorted by rising keys

abbrev pub Entries : Type 0 → Type 0
Entries X = List (ℕ × X)

abbrev pub get : {X : Type 0} → Entries X → ℕ → Option X
get entries key = find nat_cmp key entries

-- the key's entry is this one
abbrev pub bind : {X : Type 0} → Entries X → ℕ → X → Entries X
bind entries key value = put nat_cmp key value entries

abbrev pub unbind : {X : Type 0} → Entries X → ℕ → Entries X
unbind entries key = where_key nat_cmp (λ k. not (eq_by_cmp nat_cmp key k)) entries

abbrev pub are_rising : {X : Type 0} → Entries X → Bool
are_rising entries = is_sorted nat_cmp entries

-- the total weight of items
abbrev pub total : {X : Type 0} → (X → ℕ) → List X → ℕ
total weight [] = 0
total weight (x ∷ xs) = weight x + total weight xs

-- ---- Bits: entries that hold no values

abbrev pub Bits : Type 0
Bits = Entries (Unit {0})

-- the set of numbers that bits are
abbrev pub has : Bits → Set
has bits bit = is_some (get bits bit)

-- with those of `more` that are below the end
abbrev pub united : ℕ → Bits → Bits → Bits
united end bits [] = bits
united end bits (e ∷ more) = united end (if nat_lt e.0 end then bind bits e.0 tt else bits) more

-- the end of the bits that a set of this capacity can hold
abbrev pub bits_end : ℕ → ℕ
bits_end capacity = 64 * words_for capacity

-- ---- Objects

pub data Object : Type 0 where
  AList : (items : List ℕ) → Object
  AText : (bytes : List ℕ) → Object
  ASet : (capacity : ℕ) (bits : Bits) → Object
  AMap : (pairs : Entries ℕ) → Object
  AValue : (value : ℕ) → Object

-- what names hold
abbrev pub Objects : Type 0
Objects = Entries Object

-- the bytes that an object needs at least, and those that an equal one costs
abbrev pub need_of : Object → ℕ
need_of (AList items) = 4 * length items
need_of (AText bytes) = length bytes
need_of (ASet capacity bits) = 8 * words_for capacity
need_of (AMap pairs) = 8 * length pairs
need_of (AValue value) = 8

abbrev pub copy_cost : Object → ℕ
copy_cost (AList items) = 24 * length items
copy_cost (AText bytes) = 32 + 4 * length bytes
copy_cost (ASet capacity bits) = 8 * words_for capacity + 7
copy_cost (AMap pairs) = 256 * length pairs
copy_cost (AValue value) = 15

abbrev pub need : Objects → ℕ
need objects = total (λ (e : ℕ × Object). need_of e.1) objects

-- ---- Which objects there are

-- the most items of a list, bytes of a text and pairs of a map
abbrev pub most_items : ℕ
most_items = 536870912

abbrev pub most_bytes : ℕ
most_bytes = 4294967295

abbrev pub most_pairs : ℕ
most_pairs = 4294967295

-- No list, text or map is too long, a text is ASCII, and a set's bits are in its words. Bits and keys rise.
abbrev pub IsObject : Object → Type 0
IsObject (AList items) = length items ≤ most_items
IsObject (AText bytes) = AllByRecursion (λ b. b < 128) bytes × (length bytes ≤ most_bytes)
IsObject (ASet capacity bits) = AllByRecursion (λ (e : ℕ × Unit {0}). e.0 < bits_end capacity) bits × IsTrue (are_rising bits)
IsObject (AMap pairs) = (length pairs ≤ most_pairs) × IsTrue (are_rising pairs)
IsObject (AValue value) = Unit {0}

pub record AreObjects (objects : Objects) : Type 0 where
  pub rising : IsTrue (are_rising objects)
  pub each : AllByRecursion (λ (e : ℕ × Object). IsObject e.1) objects
