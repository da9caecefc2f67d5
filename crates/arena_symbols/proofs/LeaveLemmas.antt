-- The innermost map is ended.
use Rattle.std.proofs.lemmas.Bool.Decides.{nat_tests}
use Rattle.std.proofs.Common.{◌≡◌, ℕ, ◌-◌, ◌<◌, ◌≤◌, [], ◌∷◌, length, take, subst, ◌∙◌, arith, true, false}
use Rattle.std.specs.Prelude.{◌==◌}
use Rattle.std.proofs.lemmas.Bool.{eqb-false}
use Rattle.std.proofs.lemmas.List.{length-take, take-map}
use Rattle.arena_chunks.specs.Source.{View}
use Rattle.arena_chunks.proofs.Layers.{frame_reflexive}
use Rattle.arena_items.specs.declared.item.Item.{Ghosts}
use Rattle.arena_items.proofs.Layers.{length-elements}
use Rattle.arena_vec.specs.Changes.{Becomes}
use Rattle.arena_vec.specs.Vecs.{vec_list}
use Rattle.arena_vec.specs.declared.vec.Vec.{Vec}
use Rattle.arena_symbols.specs.Listing.{place_item}
use Rattle.arena_symbols.specs.Scoping.{AreStarts, start_in}
use Rattle.arena_symbols.specs.TableCalls.{Cuts, Leaves}
use Rattle.arena_symbols.specs.Tables.{Entry, recent_in, starts_in, table_blocks, IsTableIn}
use Rattle.arena_symbols.specs.declared.scopes.Scopes.{Scopes}
use Rattle.arena_symbols.proofs.PayLemmas.{credit_less}
use Rattle.arena_symbols.proofs.ScopeLemmas.{start_within, less_starts, reverse_front}
use Rattle.arena_symbols.proofs.TableLemmas.{depth_is, length_recent}

-- The only map stays.
pub left_alone : {item : Ghosts Entry} (old : View) (s : Scopes) → IsTableIn item old.memory s → s.starts.raw.len ≡ 0
    → Leaves item old old s s false
left_alone {item} old s held none = grind (arith, frame_reflexive old.memory (table_blocks s), depth_is item old.memory s)

module _ {item : Ghosts Entry} (old : View) (s : Scopes) (v : Vec ℕ) (k : ℕ) (held : IsTableIn item old.memory s)
    (some : (s.starts.raw.len == 0) ≡ false) (is : k ≡ start_in (starts_in old.memory (record s { starts = v })))
    (cut : Becomes place_item old old s.starts (take (s.starts.raw.len - 1) (vec_list place_item old.memory s.starts)) v) where
  abbrev outer : Scopes
  outer = record s { starts = v; start = k }

  positive : 0 < s.starts.raw.len
  positive = omega (arith, eqb-false s.starts.raw.len 0 some)

  fewer : v.raw.len ≤ s.starts.raw.len
  fewer = rw cut.len (simp (length-take, length-elements) (omega arith))

  starts_are : starts_in old.memory s ≡ s.start ∷ starts_in old.memory outer
  starts_are = grind (arith, nat_tests, reverse_front, length-elements, positive)

  begin : AreStarts (length (recent_in item old.memory s)) (s.start ∷ starts_in old.memory outer)
  begin = subst (AreStarts (length (recent_in item old.memory s))) starts_are held.begins

  -- Without the innermost map's start it is still a table, whose pairs from there on are one map's.
  pub outer_held : IsTableIn item old.memory outer
  outer_held = grind (arith, nat_tests, less_starts, begin, start_within, fewer)

  pub inner_start : k ≤ s.start
  inner_start = omega (arith, is, start_within s.start (starts_in old.memory outer) begin.1)

  pub start_low : s.start ≤ s.pairs.raw.len
  start_low = omega (arith, begin.0, length_recent item old.memory s)

  -- They are removed too.
  pub left : (new : View) (t : Scopes) → Cuts item old new outer t s.start → Leaves item old new s t true
  left new t cuts =
      let blocks : table_blocks t ≡ table_blocks s =
      cuts.blocks ∙ (λ i. s.newest.table.block ∷ s.pairs.raw.block ∷ cut.block i ∷ []) in
      grind (arith, nat_tests, credit_less, fewer, take-map, starts_are, depth_is, positive, blocks)
