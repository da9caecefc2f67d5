-- Copies of a map's pairs: the map stays while they are made.
use Rattle.std.proofs.lemmas.Bool.Decides.{nat_tests}
use Rattle.std.proofs.Common.{arith, ◌≡◌, ℕ, ap, ◌∙◌, List, [], ◌∷◌, Option, Some}
use Rattle.std.specs.Prelude.{Result, slice_get}
use Rattle.arena_chunks.specs.Memory.{Memory}
use Rattle.arena_chunks.specs.Source.{View}
use Rattle.arena_store.specs.declared.block.Block.{Block}
use Rattle.arena_items.specs.declared.room.AllocError.{AllocError}
use Rattle.arena_hash.specs.Contents.{Kind as MapTypes}
use Rattle.arena_hash.specs.Maps.{IsMapIn, pairs_in}
use Rattle.arena_hash.specs.Slots.{items}
use Rattle.arena_hash.specs.Tables.{slots_in, slots_of, IsTableHandle}
use Rattle.arena_hash.specs.declared.map.HashMap.{HashMap}
use Rattle.arena_clone.specs.Kinds.{Kind, row_of}
use Rattle.arena_clone.specs.laws.KindLaws.{IsLawful}
use Rattle.arena_clone.specs.MapKind.{pair_of}
use Rattle.arena_clone.specs.laws.MapLaws.{pair_lawful}
use Rattle.arena_clone.specs.Copies.{Copies}
use Rattle.arena_clone.specs.Origins.{IsKept, IsOrigin, AreBeside}
use Rattle.arena_kinds.specs.declared.ids.CloneInSemanticIds.{CloneInSemanticIds}
use Rattle.arena_clone.proofs.OriginLemmas.{all_of_all, value_held, value_copied}
use Rattle.arena_clone.proofs.PutLemmas.{PutsFirst, at_slot}

module _ {there : Memory → Memory} {is_beside : Block → List Block → Type 0} (origin : IsOrigin there is_beside) {K V S : Type 0}
    {k : MapTypes K V S} {keys : Kind K} {values : Kind V} {ids : CloneInSemanticIds} {old mid : View} {m w : HashMap K V S}
    (h : HashMap K V S) {i : ℕ}
    (puts : PutsFirst k keys values ids (there old.memory) old mid m (slots_in k.keys k.values (there old.memory) h.table) i w)
    (held : IsMapIn k (there old.memory) h × (row_of (pair_of keys values)).is_held (there old.memory) (pairs_in k (there old.memory) h))
    (beside : AreBeside is_beside (h.table.block ∷ (row_of (pair_of keys values)).deep (there old.memory) (pairs_in k (there old.memory) h))
    (m.table.block ∷ [])) where
  abbrev slots : Memory → List (Option (K × V))
  slots memory = slots_in k.keys k.values (there memory) h.table

  -- The table stays,
  table_kept : IsKept (there old.memory) (there mid.memory) (is_beside h.table.block (m.table.block ∷ puts.row.blocks)) h.table.block
  table_kept = origin.kept old.memory mid.memory (m.table.block ∷ []) (m.table.block ∷ puts.row.blocks) h.table.block puts.row.frame
      held.0.handle.place.readable beside.0

  pub handle_kept : IsTableHandle k.keys k.values (there mid.memory) h.table
  handle_kept = grind (arith, nat_tests, table_kept)

  -- with its pairs,
  pub slot_before : (o : Option (K × V)) → slice_get (slots mid.memory) i ≡ Some o → slice_get (slots old.memory) i ≡ Some o
  slot_before o at = ap (λ bytes. slice_get (slots_of k.keys k.values h.table.slots bytes) i) table_kept.bytes ∙ at

  module _ (one : IsLawful keys) (two : IsLawful values) {x : K × V} (at : slice_get (slots mid.memory) i ≡ Some (Some x)) where
    pair_there : (pair_of keys values).is_held (there old.memory) x
    pair_there =
        at_slot ((pair_of keys values).is_held (there old.memory)) (slots old.memory) i x held.1 (slot_before (Some x) at)

    pair_beside : AreBeside is_beside ((pair_of keys values).deep (there old.memory) x) (m.table.block ∷ [])
    pair_beside =
        at_slot (λ x. AreBeside is_beside ((pair_of keys values).deep (there old.memory) x) (m.table.block ∷ [])) (slots old.memory) i x
        (all_of_all (λ b. is_beside b (m.table.block ∷ [])) ((pair_of keys values).deep (there old.memory)) (items (slots old.memory))
        beside.1) (slot_before (Some x) at)

    -- which are what they were.
    pub pair_held : (pair_of keys values).is_held (there mid.memory) x
    pair_held = value_held origin puts.row.frame (pair_lawful keys values one two) x pair_there pair_beside

    -- So one that is found was there, and its copy is one of what it was.
    pub pair_was : (slice_get (slots old.memory) i ≡ Some (Some x)) × ((between : View) (r : Result (K × V) AllocError)
        → Copies (pair_of keys values) ids (there mid.memory) mid between x r
        → Copies (pair_of keys values) ids (there old.memory) mid between x r)
    pair_was = (
      slot_before (Some x) at,
      λ between r copy. value_copied origin puts.row.frame (pair_lawful keys values one two) x pair_there pair_beside copy,
    )
