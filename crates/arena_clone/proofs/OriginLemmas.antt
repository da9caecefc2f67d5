-- The sources of copies stay as they were while the copies are made.
use Rattle.std.proofs.lemmas.Bool.Decides.{nat_tests}
use Rattle.std.proofs.Common.{arith, ◌≡◌, ℕ, zero, suc, ◌+◌, subst, sym, List, [], ◌∷◌, ◌++◌, Some, Ok, Err, IsTrue}
use Rattle.std.specs.Prelude.{Result, slice_get}
use Rattle.std.specs.List.{AllByRecursion, flat_map}
use Rattle.arena_chunks.specs.Memory.{Memory, is_readable}
use Rattle.arena_chunks.specs.Source.{View}
use Rattle.arena_chunks.specs.Frame.{Frame}
use Rattle.arena_chunks.specs.BlockCalls.{WritesBlock}
use Rattle.arena_store.specs.declared.block.Block.{Block}
use Rattle.arena_items.specs.Footprint.{AreReadable, Agree}
use Rattle.arena_items.specs.Values.{bytes_of, elements}
use Rattle.arena_items.specs.declared.item.Item.{Ghosts}
use Rattle.arena_items.specs.declared.room.AllocError.{AllocError}
use Rattle.arena_clone.specs.Kinds.{Kind, row_of}
use Rattle.arena_clone.specs.laws.KindLaws.{IsLawful, all_each}
use Rattle.arena_clone.specs.Copies.{Copies}
use Rattle.arena_clone.specs.Origins.{IsOrigin, AreBeside}
use Rattle.arena_clone.specs.Rows.{CopiesRow}
use Rattle.arena_kinds.specs.declared.ids.CloneInSemanticIds.{CloneInSemanticIds}
use Rattle.arena_clone.proofs.RowLemmas.{all_at, first_more, first_refused, CopiesFirst}

-- What holds of the elements of all members of a list holds of those of one,
pub all_of_one : {A B : Type 0} (P : B → Type 0) (f : A → List B) (xs : List A) (i : ℕ) (x : A) → AllByRecursion P (flat_map f xs)
    → slice_get xs i ≡ Some x → AllByRecursion P (f x)
all_of_one P f [] i x all at = absurd (cc at)
all_of_one P f (y ∷ ys) zero x all at = subst (λ z. AllByRecursion P (f z)) (cc at) (all_each P (f y) (flat_map f ys) all).0
all_of_one P f (y ∷ ys) (suc i) x all at = all_of_one P f ys i x (all_each P (f y) (flat_map f ys) all).1 at

-- and of those of each.
pub all_of_all : {A B : Type 0} (P : B → Type 0) (f : A → List B) (xs : List A) → AllByRecursion P (flat_map f xs)
    → AllByRecursion (λ (x : A). AllByRecursion P (f x)) xs
all_of_all P f [] all = tt
all_of_all P f (x ∷ xs) all = let both = all_each P (f x) (flat_map f xs) all in (both.0, all_of_all P f xs both.1)

module _ {there : Memory → Memory} {is_beside : Block → List Block → Type 0} (origin : IsOrigin there is_beside) where
  pub beside_none : (bs : List Block) → AreBeside is_beside bs []
  beside_none [] = tt
  beside_none (b ∷ bs) = (origin.none b, beside_none bs)

  module _ {old new : Memory} {before after : List Block} (frame : Frame old new before after) where
    -- Blocks that are unaffected by a call's are readable after it, with their bytes, and unaffected by its blocks
    -- then.
    blocks_kept : (bs : List Block) → AreReadable (there old).state bs → AreBeside is_beside bs before
        → AreReadable (there new).state bs × Agree (there old) (there new) bs × AreBeside is_beside bs after
    blocks_kept [] readable beside = (tt, tt, tt)
    blocks_kept (b ∷ bs) readable beside =
        let one = origin.kept old new before after b frame readable.0 beside.0 in
        let rest = blocks_kept bs readable.1 beside.1 in
        ((one.readable, rest.0), (one.bytes, rest.1), (one.beside, rest.2))

    module _ {T : Type 0} {kind : Kind T} (is : IsLawful kind) (v : T) (held : kind.is_held (there old) v)
        (beside : AreBeside is_beside (kind.deep (there old) v) before) where
      pub value_agrees : Agree (there old) (there new) (kind.deep (there old) v)
      value_agrees = (blocks_kept (kind.deep (there old) v) (is.readable (there old) v held) beside).1

      -- So are the values of such blocks, which are what they were.
      pub value_held : kind.is_held (there new) v
      value_held = is.held (there old) (there new) v held value_agrees
          (blocks_kept (kind.deep (there old) v) (is.readable (there old) v held) beside).0

      pub value_beside : AreBeside is_beside (kind.deep (there new) v) after
      value_beside = grind (arith, nat_tests, blocks_kept)

      -- A copy of one that is made then is a copy of what it was.
      pub value_copied : {ids : CloneInSemanticIds} {to later : View} {result : Result T AllocError}
          → Copies kind ids (there new) to later v result → Copies kind ids (there old) to later v result
      value_copied copies =
          rw (sym (is.whole (there old) (there new) v value_agrees), sym (is.asks (there old) (there new) v value_agrees)) copies

  -- ---- While a block is placed

  module _ {old mid : Memory} {blocks : List Block} (frame : Frame old mid [] blocks) {T : Type 0} {kind : Kind T}
      (is : IsLawful kind) (v : T) (held : kind.is_held (there old) v) where
    pub placed_agrees : Agree (there old) (there mid) (kind.deep (there old) v)
    placed_agrees = value_agrees frame is v held (beside_none (kind.deep (there old) v))

    pub placed_held : kind.is_held (there mid) v
    placed_held = value_held frame is v held (beside_none (kind.deep (there old) v))

    pub placed_beside : AreBeside is_beside (kind.deep (there mid) v) blocks
    placed_beside = value_beside frame is v held (beside_none (kind.deep (there old) v))

    pub placed_copied : {ids : CloneInSemanticIds} {to later : View} {result : Result T AllocError}
        → Copies kind ids (there mid) to later v result → Copies kind ids (there old) to later v result
    placed_copied = value_copied frame is v held (beside_none (kind.deep (there old) v))

  -- ---- While a row is copied

  module _ {T : Type 0} (item : Ghosts T) {kind : Kind T} (is : IsLawful kind) {ids : CloneInSemanticIds} {old mid : View} (from : Block)
      {target : Block} (n i : ℕ)
      (copied : CopiesFirst item kind ids (there old.memory) old mid target
      (elements item.SIZE item.decoded n (bytes_of (there old.memory) from)) i)
      (readable : IsTrue (is_readable (there old.memory).state from))
      (held : AllByRecursion (kind.is_held (there old.memory)) (elements item.SIZE item.decoded n (bytes_of (there old.memory) from)))
      (beside : AreBeside is_beside (from ∷ (row_of kind).deep (there old.memory)
      (elements item.SIZE item.decoded n (bytes_of (there old.memory) from))) (target ∷ [])) where
    abbrev values : Memory → List T
    values m = elements item.SIZE item.decoded n (bytes_of (there m) from)

    module _ {x : T} (found : slice_get (values mid.memory) i ≡ Some x) where
      -- The same values are read,
      found_before : slice_get (values old.memory) i ≡ Some x
      found_before = grind (arith, nat_tests)

      one_held : kind.is_held (there old.memory) x
      one_held = all_at (kind.is_held (there old.memory)) (values old.memory) i x held found_before

      one_beside : AreBeside is_beside (kind.deep (there old.memory) x) (target ∷ [])
      one_beside = all_of_one (λ b. is_beside b (target ∷ [])) (kind.deep (there old.memory)) (values old.memory) i x beside.1 found_before

      -- each of which is held.
      pub row_value_held : kind.is_held (there mid.memory) x
      row_value_held = value_held copied.frame is x one_held one_beside

      -- So its copy is one of what it was: of one more of them,
      pub row_more : {between new : View} {at : ℕ} {w : T} {list : List ℕ} → Copies kind ids (there mid.memory) mid between x (Ok w)
          → WritesBlock between.memory new.memory target at list → new.source ≡ between.source
          → elements item.SIZE item.decoded (i + 1) (bytes_of new.memory target)
          ≡ elements item.SIZE item.decoded i (bytes_of between.memory target) ++ w ∷ []
          → CopiesFirst item kind ids (there old.memory) old new target (values old.memory) (i + 1)
      row_more copy =
          first_more item is (values old.memory) i copied found_before (value_copied copied.frame is x one_held one_beside copy)

      -- or of one that is refused.
      pub row_refused : {Y : Type 0} {new : View} {zs : List T} {e : AllocError} → Copies kind ids (there mid.memory) mid new x (Err e)
          → CopiesRow {X = Y} kind ids (there old.memory) old new target (values old.memory) zs (Err e)
      row_refused copy =
          first_refused item is (values old.memory) i copied found_before (value_copied copied.frame is x one_held one_beside copy)
