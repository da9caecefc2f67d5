-- Walks over the chunks of an arena.
use Rattle.std.proofs.Common.{◌≡◌, ℕ, ◌+◌, ◌<◌, ◌-◌, ap, sym, refl, subst, ◌∙◌, arith, Option, Some, None, List, [], ◌∷◌, map, take, take_all, false}
use Rattle.std.specs.Prelude.{◌==◌, slice_index}
use Rattle.std.specs.Borrow.{Bor}
use Rattle.std.specs.List.{All}
use Rattle.std.proofs.lemmas.Bool.Decides.{nat_tests}
use Rattle.std.proofs.lemmas.List.{length-drop}
use Rattle.std.proofs.lemmas.List.Elements.{All-head, All-tail}
use Rattle.std.proofs.lemmas.Simd.{map-map}
use Rattle.std.proofs.Math.Path.{ap₂}
use Rattle.arena_rules.specs.State.{Chunk, AreChunks, floor_of, used_length}
use Rattle.arena_store.specs.Memory.{Memory, bytes_from, used_parts, used_ranges}
use Rattle.arena_store.specs.Stored.{stored_chunk, IsOrdered, all_chunks, chunks_left}
use Rattle.arena_core.specs.Walks.{used_part, used_range, told_chunk}
use Rattle.arena_store.specs.declared.chunk.StoredChunk.{StoredChunk}
use Rattle.arena_core.specs.declared.arena.Arena.TheInside.{Inside}
use Rattle.arena_store.proofs.BytesLemmas.{bytes_part}
use Rattle.arena_store.proofs.TableLemmas.{chunks_in, bytes_in}
use Rattle.arena_core.proofs.PartLemmas.{byte_here, byte_below}
use Rattle.arena_core.proofs.StoredLemmas.{kind, view_of, Stands, newest_ordered, older_ordered}

-- ---- Each chunk that remains is in order

-- where there is a chunk, all are the newest and those of the table
pub all_ordered : (newest : StoredChunk) (older : List StoredChunk) → (newest.base ≡ 16 → ⊥) → All IsOrdered (all_chunks newest older)
    → All IsOrdered (newest ∷ older)
all_ordered newest older some all = let test : (newest.base == 16) ≡ false = grind (arith, nat_tests) in rw test at all

-- the first and the others, if it is the newest, and if it is one of the table
pub newest_first : (o : Option (Bor StoredChunk)) (newest : Bor StoredChunk) (older : List StoredChunk) → Some newest ≡ o
    → All IsOrdered (chunks_left o older)
    → IsOrdered newest.now × All IsOrdered (chunks_left None older)
newest_first o newest older is all =
    let both : All IsOrdered (newest.now ∷ older) = rw (← is) at all in
    (All-head IsOrdered newest.now older both, All-tail IsOrdered newest.now older both)

-- all of the table, if the newest isn't to come
pub table_ordered : (o : Option (Bor StoredChunk)) (older : List StoredChunk) → None ≡ o → All IsOrdered (chunks_left o older)
    → All IsOrdered older
table_ordered o older is all = rw (← is) at all

-- what remains begins with the newest, if that is to come
pub left_newest : (o : Option (Bor StoredChunk)) (newest : Bor StoredChunk) (older : List StoredChunk) → Some newest ≡ o
    → chunks_left o older ≡ newest.now ∷ chunks_left None older
left_newest o newest older is = rw (← is) refl

-- ---- What the chunks have in use

-- the used parts are what an image has there that has the chunks' bytes
parts_in : (m : ℕ) (f : ℕ → ℕ) (chunks : List StoredChunk) → AreChunks m (chunks_in chunks) → All IsOrdered chunks
    → ((p : ℕ) → p < floor_of (chunks_in chunks) → f p ≡ bytes_in chunks p)
    → map used_part chunks ≡ map (λ (c : Chunk). bytes_from f c.cursor (used_length c)) (chunks_in chunks)
parts_in m f [] valid ordered same = refl
parts_in m f (c ∷ older) valid ordered same =
    let order = All-head IsOrdered c older ordered in
    let n : ℕ = used_length (stored_chunk c) in
    let whole : take n (used_part c) ≡ used_part c =
    take_all n (used_part c) (omega (arith, length-drop (c.cursor - c.base) c.bytes.items, order.low, order.high)) in
    let here = bytes_part f c.bytes.items c.cursor (c.cursor - c.base) n (omega (arith, order.low, order.high)) (λ i below.
    same (c.cursor + i) (omega (arith, below)) ∙ byte_here c older (c.cursor + i) (omega (arith, order.low))
    ∙ ap (slice_index c.bytes.items) (omega (arith, order.low))) in
    ap₂ (λ (part : List ℕ) (parts : List (List ℕ)). part ∷ parts) (sym whole ∙ here)
    (parts_in m f older valid.2 (All-tail IsOrdered c older ordered) (λ p under.
    same p (omega (arith, under, valid.1)) ∙ byte_below c older p (omega (arith, under, valid.1))))

module _ (m : ℕ) (a : Inside m) where
  -- each chunk of an open arena is in order
  pub stored_ordered : Stands m a → All IsOrdered (all_chunks a.newest a.older.items)
  stored_ordered stands = grind (arith, nat_tests, kind, newest_ordered, older_ordered)

  -- the used parts, their ranges, and the chunks
  pub parts_stored : (memory : Memory) (chunks : List StoredChunk) → Stands m a → view_of m a ≡ memory
      → chunks ≡ all_chunks a.newest a.older.items → map used_part chunks ≡ used_parts memory
  parts_stored memory chunks stands view is =
      rw is (subst (λ (w : Memory). map used_part (all_chunks a.newest a.older.items) ≡ used_parts w) view
      (parts_in m (bytes_in (all_chunks a.newest a.older.items)) (all_chunks a.newest a.older.items) stands.valid.chunks
      (stored_ordered stands) (λ p under. refl)))

  pub ranges_stored : (memory : Memory) (chunks : List StoredChunk) → view_of m a ≡ memory → chunks ≡ all_chunks a.newest a.older.items
      → map used_range chunks ≡ used_ranges memory.state
  ranges_stored memory chunks view is = grind (arith, nat_tests, map-map)

  pub chunks_stored : (memory : Memory) (chunks : List StoredChunk) → view_of m a ≡ memory → chunks ≡ all_chunks a.newest a.older.items
      → map (λ (c : StoredChunk). told_chunk (stored_chunk c)) chunks ≡ map told_chunk memory.state.chunks
  chunks_stored memory chunks view is = grind (arith, nat_tests, map-map)
