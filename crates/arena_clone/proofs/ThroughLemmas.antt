-- Copies of what is in a block of its own: the block is placed, and then the values are copied into it.
use Rattle.std.proofs.lemmas.Bool.Decides.{nat_tests}
use Rattle.std.proofs.Common.{arith, ◌≡◌, ℕ, List, [], ◌∷◌, Some, None, Ok, Err, IsTrue, subst, sym}
use Rattle.std.specs.Prelude.{Result, IsPermutation}
use Rattle.std.proofs.lemmas.List.Sorted.{IsPermutation-cons}
use Rattle.arena_chunks.specs.Memory.{Memory, is_readable}
use Rattle.arena_chunks.specs.Source.{View}
use Rattle.arena_chunks.specs.Frame.{Frame}
use Rattle.arena_store.specs.declared.block.Block.{Block}
use Rattle.arena_chunks.proofs.Layers.{frame_then}
use Rattle.arena_items.specs.Values.{bytes_of, elements}
use Rattle.arena_items.specs.declared.item.Item.{Ghosts}
use Rattle.arena_items.specs.declared.room.AllocError.{AllocError}
use Rattle.arena_clone.specs.Asks.{Ask, PlacesAll, refusal}
use Rattle.arena_clone.specs.Kinds.{Kind, row_of, row_in}
use Rattle.arena_clone.specs.laws.KindLaws.{IsLawful, row_lawful}
use Rattle.arena_clone.specs.Copies.{Copies}
use Rattle.arena_clone.specs.Origins.{IsKept, IsOrigin, AreBeside}
use Rattle.arena_clone.specs.Rows.{CopiesRow}
use Rattle.arena_kinds.specs.declared.ids.CloneInSemanticIds.{CloneInSemanticIds}
use Rattle.arena_kinds.proofs.Layers.{asked_then, places_refused}
use Rattle.arena_clone.proofs.OriginLemmas.{placed_held, placed_beside, placed_agrees}

module _ {V T : Type 0} (item : Ghosts T) (kind : Kind T) (block : V → Block) (is_in : Memory → V → Type 0)
    (values : Memory → V → List T) (is_trim : V → Type 0) (ask : V → Ask) (ids : CloneInSemanticIds) (source : Memory) {old : View}
    (v : V) where
  -- The own block is refused.
  pub own_refused : {new : View} {e : AllocError} → PlacesAll (ask v ∷ []) old new [] (Some e)
      → Copies (row_in item kind block is_in values is_trim ask) ids source old new v (Err e)
  own_refused placed = grind (arith, nat_tests, places_refused)

  module _ {X : Type 0} {mid new : View} {target : Block} (own : PlacesAll (ask v ∷ []) old mid (target ∷ []) None) where
    -- The own block is placed, and then those of the values.
    both_placed : {ys : List T} {r : Result X AllocError} (row : CopiesRow kind ids source mid new target (values source v) ys r)
        → PlacesAll (ask v ∷ (row_of kind).asks source (values source v)) old new (target ∷ row.blocks) (refusal r)
    both_placed {r} row = record {
      asked = asked_then (ask v ∷ []) ((row_of kind).asks source (values source v)) old mid new (target ∷ []) row.blocks
          (refusal r) own.asked row.asked;
      apart = row.apart;
      frame = frame_then old.memory mid.memory new.memory [] (target ∷ []) (target ∷ row.blocks) own.frame row.frame;
    }

    -- A value is refused.
    pub value_refused : {ys : List T} {e : AllocError} → CopiesRow {X = X} kind ids source mid new target (values source v) ys (Err e)
        → Copies (row_in item kind block is_in values is_trim ask) ids source old new v (Err e)
    value_refused row = record { blocks = target ∷ row.blocks; placed = both_placed row; made = tt }

    -- All are copied, and reached through this handle.
    pub values_made : {w : V} {x : X} → CopiesRow kind ids source mid new target (values source v) (values new.memory w) (Ok x)
        → block w ≡ target → is_in new.memory w → is_trim w
        → Copies (row_in item kind block is_in values is_trim ask) ids source old new v (Ok w)
    values_made {w} row at held trim = record {
      blocks = target ∷ row.blocks;
      placed = both_placed row;
      made = record {
        held = (held, row.made.held);
        means = row.made.means;
        trim = (trim, row.made.trim);
        deep = subst (λ b. IsPermutation (b ∷ (row_of kind).deep new.memory (values new.memory w)) (target ∷ row.blocks)) (sym at)
            (IsPermutation-cons target ((row_of kind).deep new.memory (values new.memory w)) row.blocks row.made.deep);
      };
    }

-- ---- While the block for them is placed

module _ {there : Memory → Memory} {is_beside : Block → List Block → Type 0} (origin : IsOrigin there is_beside) {T : Type 0}
    (item : Ghosts T) {kind : Kind T} (is : IsLawful kind) {old now : Memory} {target : Block} (from : Block) (n : ℕ)
    (frame : Frame old now [] (target ∷ [])) (readable : IsTrue (is_readable (there old).state from))
    (held : (row_of kind).is_held (there old) (elements item.SIZE item.decoded n (bytes_of (there old) from))) where
  abbrev values_in : Memory → List T
  values_in m = elements item.SIZE item.decoded n (bytes_of (there m) from)

  -- Values and their own block are what they were,
  pub from_kept : IsKept (there old) (there now) (is_beside from (target ∷ [])) from
  from_kept = origin.kept old now [] (target ∷ []) from frame readable (origin.none from)

  pub row_held : (row_of kind).is_held (there now) (values_in now)
  row_held = rw (sym from_kept.bytes) (placed_held origin frame (row_lawful kind is) (values_in old) held)

  -- and are unaffected by it.
  pub row_beside : AreBeside is_beside (from ∷ (row_of kind).deep (there now) (values_in now)) (target ∷ [])
  row_beside =
      (from_kept.beside, rw (sym from_kept.bytes) (placed_beside origin frame (row_lawful kind is) (values_in old) held))

  -- So copies of them are copies of what they were.
  pub row_before : {X : Type 0} {ids : CloneInSemanticIds} {mid new : View} {ys : List T} {r : Result X AllocError}
      → CopiesRow kind ids (there now) mid new target (values_in now) ys r
      → CopiesRow kind ids (there old) mid new target (values_in old) ys r
  row_before {X} {ids} {mid} {new} {ys} {r} row =
      let here : CopiesRow {X = X} kind ids (there now) mid new target (values_in old) ys r = rw (sym from_kept.bytes) at row in
      let agree = placed_agrees origin frame (row_lawful kind is) (values_in old) held in
      let asks = (row_lawful kind is).asks (there old) (there now) (values_in old) agree in
      let whole = (row_lawful kind is).whole (there old) (there now) (values_in old) agree in
      record {
        blocks = here.blocks;
        asked = rw asks at here.asked;
        apart = here.apart;
        frame = here.frame;
        readable = here.readable;
        made = rw whole at here.made;
      }
