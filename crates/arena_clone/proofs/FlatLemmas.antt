-- Values whose bytes are copied in one move of memory.
use Rattle.std.proofs.Common.{◌≡◌, ℕ, ◌*◌, ◌≤◌, refl, List, [], Ok, arith, IsTrue, subst, sym}
use Rattle.std.specs.Prelude.{IsPermutation}
use Rattle.std.proofs.lemmas.List.Sorted.{IsPermutation-refl}
use Rattle.arena_chunks.specs.Memory.{Memory, image, bytes_from, is_readable}
use Rattle.arena_chunks.specs.Source.{View}
use Rattle.arena_chunks.specs.BlockCalls.{WritesBlock}
use Rattle.arena_store.specs.declared.block.Block.{Block}
use Rattle.arena_chunks.proofs.Layers.{length-bytes, wrote_first, wrote_readable}
use Rattle.arena_items.specs.Values.{bytes_of, elements}
use Rattle.arena_items.proofs.Layers.{values_kept, wrote_same}
use Rattle.arena_clone.specs.Kinds.{Kind, row_of}
use Rattle.arena_clone.specs.Copies.{IsFlat, IsMade}
use Rattle.arena_clone.specs.FlatLaws.{row_flat}
use Rattle.arena_clone.specs.Rows.{CopiesRow}
use Rattle.arena_kinds.specs.declared.ids.CloneInSemanticIds.{CloneInSemanticIds}

module _ {T : Type 0} (kind : Kind T) (ids : CloneInSemanticIds) (flat : IsFlat kind ids) where
  -- The same row of flat values elsewhere is a copy of the row.
  pub row_made : (a c : Memory) (xs : List T)
      → IsMade (row_of kind) ((row_of kind).by_ids ids ((row_of kind).whole a xs)) c [] xs
  row_made a c xs =
      let row = row_flat flat in
      record {
        held = row.held c xs;
        means = row.alike a c xs;
        trim = row.trim c xs;
        deep = subst (λ ds. IsPermutation ds []) (sym (row.deep c xs)) (IsPermutation-refl []);
      }

  -- It is copied by a write that puts the same values there.
  pub row_written : {X : Type 0} (source : Memory) (old new : View) (target : Block) (at : ℕ) (list : List ℕ) (xs ys : List T) (x : X)
      → WritesBlock old.memory new.memory target at list → new.source ≡ old.source → IsTrue (is_readable old.memory.state target)
      → ys ≡ xs → CopiesRow kind ids source old new target xs ys (Ok x)
  row_written source old new target at list xs ys x writes same readable are = rw are (record {
    blocks = [];
    asked = rw ((row_flat flat).asks source xs) (refl, refl, wrote_same old new target at list writes same);
    apart = (tt, tt);
    frame = writes.frame;
    readable = rw (wrote_readable old.memory new.memory target target at list writes) readable;
    made = row_made source new.memory xs;
  })

-- The first values of a block whose front was overwritten with the front of another.
pub front_written : {T : Type 0} (dec : List ℕ → T) (source old new : Memory) (from target : Block) (size n : ℕ)
    → n * size ≤ from.size → n * size ≤ target.size → WritesBlock old new target 0 (bytes_from (image source) from.addr (n * size))
    → elements size dec n (bytes_of new target) ≡ elements size dec n (bytes_of source from)
front_written dec source old new from target size n within room writes =
    let long = length-bytes (image source) from.addr (n * size) in
    let wrote = rw long at (wrote_first old new target (bytes_from (image source) from.addr (n * size)) writes) in
    values_kept dec source new from target size n (n * size) (omega arith) within room wrote
