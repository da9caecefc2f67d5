-- What calls on scoped tables do.
use Rattle.std.specs.Prelude.{◌≡◌, ◌≢◌, ℕ, ◌-◌, ◌^◌, ◌<◌, ◌≤◌, ◌↔◌, ◌⊎◌, take, bytes_eq, is_some, Option, Bool, true, false, List, [], ◌∷◌, length, Result, Ok, Err, IfOk, IfErr, OnOk, OnErr, if◌then◌else◌, not}
use Rattle.std.specs.Int.{w32, to_le_bytes}
use Rattle.arena_chunks.specs.Memory.{Memory}
use Rattle.arena_chunks.specs.Source.{View}
use Rattle.arena_chunks.specs.Frame.{AreAllApart, Frame}
use Rattle.arena_store.specs.declared.block.Block.{Block}
use Rattle.arena_chunks.specs.Answers.{Answer}
use Rattle.arena_items.specs.Asks.{Asked, refusal}
use Rattle.arena_items.specs.Room.{SamePlaces}
use Rattle.arena_items.specs.declared.item.Item.{Ghosts}
use Rattle.arena_items.specs.declared.room.AllocError.{AllocError}
use Rattle.arena_items.specs.declared.room.AllocError.TheVariants.{CapacityOverflow}
use Rattle.arena_hash.specs.Accounts.{credit_of}
use Rattle.arena_hash.specs.Finite.{value_of}
use Rattle.arena_hash.specs.Maps.{IsMapIn, map_in}
use Rattle.hash_ring.specs.declared.hasher.FxHasher.{FxHasher}
use Rattle.arena_hash.specs.declared.map.HashMap.{HashMap}
use Rattle.arena_symbols.specs.Asks.{list_ask, TakesList, TakesBoth, IsBothDenied}
use Rattle.arena_symbols.specs.Listing.{place_item}
use Rattle.arena_symbols.specs.Paying.{Pays, far_up}
use Rattle.arena_symbols.specs.Scoping.{lookup, with_pair, outer_of, is_in_last, pair_count, most_scopes, most_pairs}
use Rattle.arena_symbols.specs.Tables.{Entry, id_kind, IsTableIn, entries_in, starts_in, scopes_in, table_blocks, table_credit}
use Rattle.arena_symbols.specs.declared.scopes.Scopes.{Scopes}

-- One empty map, without bytes in the arena: it is held in every arena, and apart from all blocks.
pub record IsNewTable (item : Ghosts Entry) (s : Scopes) : Type 0 where
  pub held : (memory : Memory) → IsTableIn item memory s
  pub scopes : (memory : Memory) → scopes_in item memory s ≡ [] ∷ []
  pub apart : (others : List Block) → AreAllApart (table_blocks s) others
  pub credit : table_credit s ≡ 0

-- The list of starts has what it asks for, and the other blocks are those of before.
pub record TakesScope (old new : View) (s t : Scopes) : Type 0 where
  pub list : TakesList place_item old new s.starts t.starts
  pub rest : (t.newest ≡ s.newest) × (t.pairs ≡ s.pairs)

-- A new innermost map, which is empty. If refused, the arena doesn't place what the list of starts asks for.
pub record Enters (item : Ghosts Entry) (old new : View) (s t : Scopes) (result : Result (Unit {0}) AllocError) : Type 0 where
  pub held : IsTableIn item new.memory t
  pub scopes : OnOk result (scopes_in item new.memory t ≡ [] ∷ scopes_in item old.memory s)
  pub kept : OnErr result (scopes_in item new.memory t ≡ scopes_in item old.memory s)
  pub overflows : (result ≡ Err CapacityOverflow) ↔ (most_scopes ≤ length (scopes_in item old.memory s))
  pub took : OnOk result (TakesScope old new s t)
  pub full : result ≡ Err CapacityOverflow → (new ≡ old) × (t ≡ s)
  pub denied : IfErr result (λ e. e ≢ CapacityOverflow → Asked (list_ask place_item s.starts) old new (refusal e))
  pub pays : Pays far_up 64 (table_credit s) (table_credit t) old new result
  pub frame : Frame old.memory new.memory (table_blocks s) (table_blocks t)

-- An id has the place that was hidden, or is removed if none was, and every other id has what it had. No memory is
-- taken.
pub record Unhides (old new : View) (m : HashMap ℕ ℕ FxHasher) (id : ℕ) (hidden : Option ℕ) (w : HashMap ℕ ℕ FxHasher) : Type 0 where
  pub held : IsMapIn id_kind new.memory w
  pub values : (q : ℕ) → q < 2 ^ 32 → value_of (map_in id_kind new.memory w (to_le_bytes w32 q))
      ≡ (if bytes_eq (to_le_bytes w32 q) (to_le_bytes w32 id) then hidden else value_of (map_in id_kind old.memory m (to_le_bytes w32 q)))
  pub len : w.len ≡ m.len - (if is_some hidden then 0 else 1)
  pub block : w.table.block ≡ m.table.block
  pub places : SamePlaces old new
  pub credit : credit_of id_kind w ≤ credit_of id_kind m
  pub frame : Frame old.memory new.memory (m.table.block ∷ []) (w.table.block ∷ [])

-- All pairs but the first n are removed, and those that they hid are the newest of their ids again. No memory is taken,
-- and nothing is refused.
pub record Cuts (item : Ghosts Entry) (old new : View) (s t : Scopes) (n : ℕ) : Type 0 where
  pub held : IsTableIn item new.memory t
  pub entries : entries_in item new.memory t ≡ take n (entries_in item old.memory s)
  pub len : t.pairs.raw.len ≡ n
  pub starts : starts_in new.memory t ≡ starts_in old.memory s
  pub blocks : table_blocks t ≡ table_blocks s
  pub places : SamePlaces old new
  pub credit : table_credit t ≤ table_credit s
  pub frame : Frame old.memory new.memory (table_blocks s) (table_blocks t)

-- The innermost map is removed, if there is another. The blocks stay, no memory is taken, and nothing is refused.
pub record Leaves (item : Ghosts Entry) (old new : View) (s t : Scopes) (result : Bool) : Type 0 where
  pub held : IsTableIn item new.memory t
  pub left : result ≡ true → scopes_in item new.memory t ≡ outer_of (scopes_in item old.memory s)
  pub alone : result ≡ false → (length (scopes_in item old.memory s) ≡ 1) × (new ≡ old) × (t ≡ s)
  pub more : result ≡ true → 2 ≤ length (scopes_in item old.memory s)
  pub blocks : table_blocks t ≡ table_blocks s
  pub places : SamePlaces old new
  pub credit : table_credit t ≤ table_credit s
  pub frame : Frame old.memory new.memory (table_blocks s) (table_blocks t)

-- what is asked for a pair: nothing, if the innermost map has the id; otherwise what the list of pairs and the map of the
-- newest ask for
abbrev pub TakesPair : Ghosts Entry → View → View → Scopes → Scopes → ℕ → Type 0
TakesPair item old new s t id = ((is_in_last (scopes_in item old.memory s) id ≡ true) × (new ≡ old) × (t ≡ s))
    ⊎ ((is_in_last (scopes_in item old.memory s) id ≡ false) × (t.starts ≡ s.starts)
    × TakesBoth item id_kind (is_some (lookup (scopes_in item old.memory s) id)) old new s.pairs t.pairs s.newest t.newest)

-- The arena doesn't place it.
abbrev pub IsPairDenied : Ghosts Entry → View → View → Scopes → Scopes → ℕ → Answer → Type 0
IsPairDenied item old new s t id answer =
    IsBothDenied item id_kind (is_some (lookup (scopes_in item old.memory s) id)) old new s.pairs t.pairs s.newest answer

-- The innermost map has the pair, unless it had the id.
pub record Defines (item : Ghosts Entry) (old new : View) (s t : Scopes) (id value : ℕ) (result : Result Bool AllocError) : Type 0 where
  pub held : IsTableIn item new.memory t
  pub says : IfOk result (λ b. b ≡ not (is_in_last (scopes_in item old.memory s) id))
  pub scopes : IfOk result (λ b. scopes_in item new.memory t
      ≡ (if b then with_pair (scopes_in item old.memory s) id value else scopes_in item old.memory s))
  pub same : result ≡ Ok false → (new ≡ old) × (t ≡ s)
  pub kept : OnErr result (scopes_in item new.memory t ≡ scopes_in item old.memory s)
  pub overflows : (result ≡ Err CapacityOverflow)
      ↔ ((is_in_last (scopes_in item old.memory s) id ≡ false) × (most_pairs ≤ pair_count (scopes_in item old.memory s)))
  pub took : OnOk result (TakesPair item old new s t id)
  pub full : result ≡ Err CapacityOverflow → (new ≡ old) × (t ≡ s)
  pub denied : IfErr result (λ e. e ≢ CapacityOverflow → IsPairDenied item old new s t id (refusal e))
  pub fresh : OnErr result (is_in_last (scopes_in item old.memory s) id ≡ false)
  pub pays : Pays far_up 512 (table_credit s) (table_credit t) old new result
  pub frame : Frame old.memory new.memory (table_blocks s) (table_blocks t)
