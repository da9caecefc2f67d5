-- A scoped table in two arenas that agree on its footprint.
use Rattle.std.proofs.Common.{◌≡◌, ℕ, List, [], ◌∷◌, map, reverse, refl, sym, ap, subst, ◌∙◌}
use Rattle.std.specs.List.{AllByRecursion}
use Rattle.std.specs.Int.{w32, to_le_bytes}
use Rattle.arena_chunks.specs.Memory.{Memory, image, bytes_from}
use Rattle.arena_store.specs.declared.block.Block.{Block}
use Rattle.arena_chunks.proofs.Layers.{no_bytes}
use Rattle.arena_items.specs.Footprint.{AreReadable, Agree}
use Rattle.arena_items.specs.laws.FootprintLaws.{held_again}
use Rattle.arena_items.specs.Values.{elements}
use Rattle.arena_items.specs.declared.item.Item.{Ghosts}
use Rattle.arena_hash.specs.laws.AgreeLaws.{meaning-agree, held-agree}
use Rattle.arena_hash.specs.Finite.{Finite, value_of}
use Rattle.arena_hash.specs.Maps.{pairs_in, footprint as map_footprint}
use Rattle.arena_symbols.specs.Listing.{place_item}
use Rattle.arena_symbols.specs.Scoping.{scopes_of}
use Rattle.arena_symbols.specs.Tables.{Entry, pairs_of, id_kind, entries_in, recent_in, starts_in, scopes_in, IsTableOf, IsTableIn, table_blocks}
use Rattle.arena_symbols.specs.declared.scopes.Scopes.{Scopes}

-- What holds of an empty block holds of the texts of ids.
all_empty : (P : Block → Type 0) → P (record { generation = 0; addr = 1; size = 0; align = 1 }) → (ps : List (ℕ × ℕ))
    → AllByRecursion P (map (λ (p : ℕ × ℕ). id_kind.key.text p.0) ps)
all_empty P one [] = tt
all_empty P one (p ∷ ps) = (one, all_empty P one ps)

-- a table, from its parts
pub table_of : {item : Ghosts Entry} {memory : Memory} {s : Scopes} {es : List Entry} {ks : List ℕ} → recent_in item memory s ≡ es
    → starts_in memory s ≡ ks → IsTableOf item memory s es ks → IsTableIn item memory s
table_of {item = item} {memory = memory} {s = s} {ks = ks} es-are ks-are of =
    subst (IsTableOf item memory s (recent_in item memory s)) (sym ks-are) (subst (λ (es : List Entry). IsTableOf item memory s es ks)
    (sym es-are) of)

module _ (item : Ghosts Entry) where
  -- Its blocks are readable.
  pub table_readable : (m : Memory) (s : Scopes) → IsTableIn item m s → AreReadable m.state (table_blocks s)
  table_readable m s held = (held.ids.handle.place.readable, (held.pairs.place.readable, (held.starts.place.readable, tt)))

  module _ (a c : Memory) (s : Scopes) (agree : Agree a c (table_blocks s)) where
    entries_same : entries_in item a s ≡ entries_in item c s
    entries_same = ap (elements item.SIZE item.decoded s.pairs.raw.len) agree.1.0

    starts_same : starts_in a s ≡ starts_in c s
    starts_same = ap (λ (bs : List ℕ). reverse (elements place_item.SIZE place_item.decoded s.starts.raw.len bs)) agree.1.1.0

    -- It stands for the same maps,
    pub table_same : scopes_in item a s ≡ scopes_in item c s
    table_same = (λ i. scopes_of (pairs_of (entries_same i)) (starts_same i))

    -- and is held if its blocks are readable.
    pub table_held_again : IsTableIn item a s → AreReadable c.state (table_blocks s) → IsTableIn item c s
    table_held_again held readable =
        let none : bytes_from (image a) 1 0 ≡ bytes_from (image c) 1 0 = no_bytes (image a) 1 0 refl ∙ sym (no_bytes (image c) 1 0 refl) in
        let map_agree : Agree a c (map_footprint id_kind a s.newest) = (agree.0, all_empty _ none (pairs_in id_kind a s.newest)) in
        table_of (ap (λ (l : List Entry). reverse l) (sym entries_same)) (sym starts_same) (record {
          ids = held-agree id_kind a c s.newest map_agree held.ids (readable.0, all_empty _ refl (pairs_in id_kind a s.newest));
          pairs = record {
            place = held_again _ item.ALIGN a.state c.state s.pairs.raw.block held.pairs.place readable.1.0;
            within = held.pairs.within;
            no_bytes = held.pairs.no_bytes;
          };
          starts = record {
            place = held_again _ place_item.ALIGN a.state c.state s.starts.raw.block held.starts.place readable.1.1.0;
            within = held.starts.within;
            no_bytes = held.starts.no_bytes;
          };
          apart = held.apart;
          places = λ id fits. ap (λ (f : Finite ℕ ℕ). value_of (f (to_le_bytes w32 id)))
              (sym (meaning-agree id_kind a c s.newest map_agree)) ∙ held.places id fits;
          hidden = held.hidden;
          begins = held.begins;
          start = held.start;
          depth = held.depth;
          count = held.count;
        })
