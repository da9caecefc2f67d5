-- Scoped tables in an arena, and their maps.
use Rattle.std.specs.Prelude.{◌≡◌, ◌==◌, ℕ, ◌+◌, ◌^◌, ◌<◌, List, [], ◌∷◌, map, reverse, length, Option, Some, None, is_some, if◌then◌else◌}
use Rattle.std.specs.Int.{w32, to_le_bytes}
use Rattle.arena_chunks.specs.Memory.{Memory}
use Rattle.arena_chunks.specs.Frame.{ArePairwiseApart}
use Rattle.arena_store.specs.declared.block.Block.{Block}
use Rattle.arena_items.specs.ByteForms.{pair_item, option_item}
use Rattle.arena_items.specs.declared.item.Item.{Ghosts}
use Rattle.arena_vec.specs.Credit.{credit_of as list_credit}
use Rattle.arena_vec.specs.Vecs.{IsVecIn, vec_list}
use Rattle.arena_hash.specs.Accounts.{credit_of}
use Rattle.arena_hash.specs.Contents.{Kind, whole_key}
use Rattle.arena_hash.specs.Finite.{value_of}
use Rattle.arena_hash.specs.Maps.{IsMapIn, map_in}
use Rattle.hash_ring.specs.declared.hasher.FxHasher.{FxHasher}
use Rattle.arena_symbols.specs.Listing.{place_item, place_kind}
use Rattle.arena_symbols.specs.Scoping.{scopes_of, AreStarts, start_in}
use Rattle.arena_symbols.specs.declared.scopes.Scopes.{Scopes}

-- A pair with what it hid: the id, the value, and the place of the newest pair before it with that id.
abbrev pub Entry : Type 0
Entry = ℕ × (ℕ × Option ℕ)

abbrev pub pairs_of : List Entry → List (ℕ × ℕ)
pairs_of entries = map (λ (e : Entry). (e.0, e.1.0)) entries

-- the byte form of an entry
abbrev pub entry_item : Ghosts Entry
entry_item = pair_item place_item (pair_item place_item (option_item place_item))

-- the types of the map of newest pairs
abbrev pub id_kind : Kind ℕ ℕ FxHasher
id_kind = place_kind place_item (whole_key place_item)

-- ---- Entries, the newest first

-- the place of the newest entry with an id: the number of entries before it
abbrev pub newest : List Entry → ℕ → Option ℕ
newest [] id = None
newest (e ∷ older) id = if e.0 == id then Some (length older) else newest older id

-- Each entry has the place of the newest entry before it with its id.
abbrev pub TellHidden : List Entry → Type 0
TellHidden [] = Unit {0}
TellHidden (e ∷ older) = (e.1.1 ≡ newest older e.0) × TellHidden older

-- the number of entries that hid none, which is the number of ids
abbrev pub first_count : List Entry → ℕ
first_count [] = 0
first_count (e ∷ older) = (if is_some e.1.1 then 0 else 1) + first_count older

-- ---- Tables

-- the entries of a table, oldest first and newest first; where its maps begin, innermost first; and the maps
abbrev pub entries_in : Ghosts Entry → Memory → Scopes → List Entry
entries_in item memory s = vec_list item memory s.pairs

abbrev pub recent_in : Ghosts Entry → Memory → Scopes → List Entry
recent_in item memory s = reverse (entries_in item memory s)

abbrev pub starts_in : Memory → Scopes → List ℕ
starts_in memory s = reverse (vec_list place_item memory s.starts)

abbrev pub scopes_in : Ghosts Entry → Memory → Scopes → List (List (ℕ × ℕ))
scopes_in item memory s = scopes_of (pairs_of (entries_in item memory s)) (starts_in memory s)

-- the blocks that calls on a table write, which are all that it reads: its ids have no texts
abbrev pub table_blocks : Scopes → List Block
table_blocks s = s.newest.table.block ∷ s.pairs.raw.block ∷ s.starts.raw.block ∷ []

-- The handle stands for these entries, the newest first, and these starts of maps, the innermost first: a map from ids
-- to their newest entries, a list of entries with what each hid, and a list of where maps begin. The three blocks are
-- apart.
pub record IsTableOf (item : Ghosts Entry) (memory : Memory) (s : Scopes) (es : List Entry) (ks : List ℕ) : Type 0 where
  pub ids : IsMapIn id_kind memory s.newest
  pub pairs : IsVecIn item memory s.pairs
  pub starts : IsVecIn place_item memory s.starts
  pub apart : ArePairwiseApart (table_blocks s)
  pub places : (id : ℕ) → id < 2 ^ 32 → value_of (map_in id_kind memory s.newest (to_le_bytes w32 id)) ≡ newest es id
  pub hidden : TellHidden es
  pub begins : AreStarts (length es) ks
  pub start : s.start ≡ start_in ks
  pub depth : s.starts.raw.len < 2 ^ 29
  pub count : s.newest.len ≡ first_count es

-- The handle stands for a scoped table.
abbrev pub IsTableIn : Ghosts Entry → Memory → Scopes → Type 0
IsTableIn item memory s = IsTableOf item memory s (recent_in item memory s) (starts_in memory s)

abbrev pub table_credit : Scopes → ℕ
table_credit s =
    list_credit 16 s.pairs.raw.len s.pairs.raw.cap + credit_of id_kind s.newest + list_credit 4 s.starts.raw.len s.starts.raw.cap
