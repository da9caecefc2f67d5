-- Scoped tables in an arena.
use Rattle.std.proofs.Common.{◌≡◌, ℕ, ◌+◌, ◌^◌, ◌<◌, length, sym, ap, ◌∙◌, arith, refl, Some, None, Option}
use Rattle.std.specs.Prelude.{is_some}
use Rattle.std.specs.Int.{w32, to_le_bytes}
use Rattle.std.proofs.lemmas.List.{length-map, length-reverse, reverse-reverse}
use Rattle.std.proofs.lemmas.Option.{slice_get-get_or}
use Rattle.arena_rules.specs.Rounding.{up}
use Rattle.arena_chunks.specs.Memory.{Memory}
use Rattle.arena_items.specs.Layout.{pair_size, second_at, option_size}
use Rattle.arena_items.specs.declared.item.Item.{Ghosts}
use Rattle.arena_items.proofs.Layers.{length-elements}
use Rattle.arena_hash.specs.Finite.{value_of}
use Rattle.arena_hash.specs.Maps.{map_in}
use Rattle.arena_symbols.specs.Scoping.{lookup, pair_count, start_in, is_in_last, stands_from}
use Rattle.arena_symbols.specs.Tables.{Entry, entry_item, id_kind, pairs_of, newest, entries_in, recent_in, starts_in, scopes_in, IsTableIn}
use Rattle.arena_symbols.specs.declared.scopes.Scopes.{Scopes}
use Rattle.arena_symbols.proofs.ScopeLemmas.{told, lookup_whole, value_told, newest_within, innermost_is, stands_there, length_scopes, count_pairs}

-- An entry is small.
pub entry_size : (entry_item.SIZE ≡ 16) × (entry_item.ALIGN ≡ 4)
unfolding up pair_size second_at option_size
entry_size = (refl, refl)

module _ (item : Ghosts Entry) (memory : Memory) (s : Scopes) where
  pub length_recent : length (recent_in item memory s) ≡ s.pairs.raw.len
  length_recent = simp length-reverse (length-elements _ _ _ _)

  pub depth_is : length (scopes_in item memory s) ≡ s.starts.raw.len + 1
  depth_is = simp (length_scopes, length-reverse, length-elements) refl

  pub counted_pairs : pair_count (scopes_in item memory s) ≡ s.pairs.raw.len
  counted_pairs = simp (count_pairs, length-map) (length-elements _ _ _ _)

module _ {item : Ghosts Entry} {memory : Memory} {s : Scopes} (held : IsTableIn item memory s) (id : ℕ) (o : Option ℕ) (fits : id < 2 ^ 32)
    (is : o ≡ value_of (map_in id_kind memory s.newest (to_le_bytes w32 id))) where
  -- The map has the place of an id's newest entry,
  pub newest_is : o ≡ newest (recent_in item memory s) id
  newest_is = is ∙ held.places id fits

  pub stands : (at : ℕ) → o ≡ Some at → at < s.pairs.raw.len
  stands at found =
      omega (arith, newest_within (recent_in item memory s) id at (sym newest_is ∙ found), length_recent item memory s)

  -- which has its value,
  pub looked_up : lookup (scopes_in item memory s) id ≡ told (entries_in item memory s) o
  looked_up = lookup_whole (pairs_of (entries_in item memory s)) (starts_in memory s) id
      ∙ (rw (reverse-reverse (entries_in item memory s), ← newest_is) at (value_told (recent_in item memory s) id))

  -- so some map has an id if this one has it,
  pub looked_is : is_some (lookup (scopes_in item memory s) id) ≡ is_some o
  looked_is = ap is_some looked_up ∙ by o refl
    where
      by : (p : Option ℕ) → o ≡ p → is_some (told (entries_in item memory s) p) ≡ is_some p
      by None found = refl
      by (Some at) found =
          let within : at < length (entries_in item memory s) = simp length-elements (stands at found) in
          rw (slice_get-get_or (entries_in item memory s) at (0, (0, None)) within) refl

  -- and the entry is of the innermost map if it is at or after that map's start.
  pub in_last_is : is_in_last (scopes_in item memory s) id ≡ stands_from o s.start
  in_last_is = rw (held.start, innermost_is (pairs_of (entries_in item memory s)) (starts_in memory s))
      (rw (reverse-reverse (entries_in item memory s), ← newest_is)
      at (stands_there (recent_in item memory s) (start_in (starts_in memory s)) id))
