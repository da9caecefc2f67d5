-- Copies of sequences of values: of none, of one more, and of all.
use Rattle.std.proofs.lemmas.Bool.Decides.{nat_tests}
use Rattle.std.proofs.Common.{arith, ◌≡◌, ℕ, zero, suc, ◌+◌, ◌≤◌, refl, sym, ap, subst, List, [], ◌∷◌, ◌++◌, Some, None, Ok, Err, take, drop, length, add-one, IsTrue}
use Rattle.std.specs.Prelude.{Result, IsPermutation, slice_get}
use Rattle.std.proofs.lemmas.List.Sorted.{IsPermutation-refl, IsPermutation-append}
use Rattle.std.specs.List.{AllByRecursion, flat_map}
use Rattle.std.proofs.lemmas.Grind.{flat_map-append}
use Rattle.std.proofs.lemmas.List.{map-append, flat_map_more, take_all}
use Rattle.arena_chunks.specs.Memory.{Memory, is_readable}
use Rattle.arena_chunks.specs.Source.{View}
use Rattle.arena_chunks.specs.Frame.{Frame, ArePairwiseApart, Stays, AreAllApart}
use Rattle.arena_chunks.specs.BlockCalls.{WritesBlock}
use Rattle.arena_store.specs.declared.block.Block.{Block}
use Rattle.arena_chunks.proofs.Layers.{apart_both, all_apart, pairwise_both, frame_reflexive, frame_then, frame_weaken, frame_beside, frame_keeps_all, wrote_readable}
use Rattle.arena_items.specs.Values.{bytes_of, elements}
use Rattle.arena_items.specs.declared.item.Item.{Ghosts}
use Rattle.arena_items.specs.declared.room.AllocError.{AllocError}
use Rattle.arena_items.specs.Room.{SamePlaces}
use Rattle.arena_items.proofs.Layers.{stays_apart, elements-empty, wrote_same}
use Rattle.arena_clone.specs.Kinds.{Kind, row_of}
use Rattle.arena_clone.specs.laws.KindLaws.{IsLawful, row_lawful}
use Rattle.arena_clone.specs.Copies.{IsMade, Copies}
use Rattle.arena_clone.specs.Rows.{CopiesRow}
use Rattle.arena_kinds.specs.declared.ids.CloneInSemanticIds.{CloneInSemanticIds}
use Rattle.arena_kinds.proofs.Layers.{same_places, asked_then, asked_refused, asked_same, apart_of_none, made_readable, made_stays}

-- ---- Lists

module _ {A : Type 0} where
  -- the first i + 1 are the first i, and the one after them
  pub take_more : (xs : List A) (i : ℕ) (x : A) → slice_get xs i ≡ Some x → take (i + 1) xs ≡ take i xs ++ x ∷ []
  take_more [] i x at = absurd (cc at)
  take_more (y ∷ ys) zero x at = cc
  take_more (y ∷ ys) (suc i) x at = rw add-one (ap (λ zs. y ∷ zs) (rw add-one at (take_more ys i x at)))

  -- a list is cut at one of its elements
  pub cut_at : (xs : List A) (i : ℕ) (x : A) → slice_get xs i ≡ Some x → xs ≡ take i xs ++ x ∷ drop (suc i) xs
  cut_at [] i x at = absurd (cc at)
  cut_at (y ∷ ys) zero x at = cc
  cut_at (y ∷ ys) (suc i) x at = ap (λ zs. y ∷ zs) (cut_at ys i x at)

  -- what holds of each holds of one
  pub all_at : (P : A → Type 0) (xs : List A) (i : ℕ) (x : A) → AllByRecursion P xs → slice_get xs i ≡ Some x → P x
  all_at P [] i x all at = absurd (cc at)
  all_at P (y ∷ ys) zero x all at = subst P (cc at) all.0
  all_at P (y ∷ ys) (suc i) x all at = all_at P ys i x all.1 at

  -- and of one more after all
  pub all_more : (P : A → Type 0) (xs : List A) (x : A) → AllByRecursion P xs → P x → AllByRecursion P (xs ++ x ∷ [])
  all_more P [] x all one = (one, tt)
  all_more P (y ∷ ys) x all one = (all.0, all_more P ys x all.1 one)

-- ---- One more

-- Of no values there are no copies.
pub row_none : {T X : Type 0} {kind : Kind T} {ids : CloneInSemanticIds} {source : Memory} {old : View} {target : Block} {x : X}
    → IsTrue (is_readable old.memory.state target) → CopiesRow kind ids source old old target [] [] (Ok x)
row_none {old} {target} readable = record {
  blocks = [];
  asked = (refl, refl, same_places old);
  apart = (tt, tt);
  frame = frame_reflexive old.memory (target ∷ []);
  readable = readable;
  made = record { held = tt; means = refl; trim = tt; deep = IsPermutation-refl [] };
}

module _ {T X : Type 0} {kind : Kind T} (is : IsLawful kind) {ids : CloneInSemanticIds} {source : Memory} {old mid : View} {target : Block}
    {xs ys : List T} {u : X} (row : CopiesRow kind ids source old mid target xs ys (Ok u)) (x : T) where
  module _ {between : View} {r : Result T AllocError} (copy : Copies kind ids source mid between x r) where
    -- The block of the copies so far, and their blocks, stay while the next copy is made, and are apart from its
    -- blocks.
    pub row_stays : AllByRecursion (Stays mid.memory between.memory copy.blocks) (target ∷ row.blocks)
    row_stays = frame_keeps_all mid.memory between.memory [] copy.blocks (target ∷ row.blocks) copy.placed.frame
        (row.readable, made_readable (row_lawful kind is) row.made) (apart_of_none (target ∷ row.blocks))

    both_apart : ArePairwiseApart (target ∷ row.blocks ++ copy.blocks)
    both_apart = pairwise_both (target ∷ row.blocks) copy.blocks row.apart copy.placed.apart
        (stays_apart mid.memory between.memory copy.blocks (target ∷ row.blocks) row_stays)

    both_frame : Frame old.memory between.memory (target ∷ []) (target ∷ row.blocks ++ copy.blocks)
    both_frame = grind (arith, nat_tests, frame_then, frame_weaken, apart_both)

  -- If one is refused the call is, whatever it was to copy after it.
  pub row_refused : (rest : List T) {Y : Type 0} {zs : List T} {new : View} {e : AllocError} → Copies kind ids source mid new x (Err e)
      → CopiesRow {X = Y} kind ids source old new target (xs ++ x ∷ rest) zs (Err e)
  row_refused rest {new} {e} copy = record {
    blocks = row.blocks ++ copy.blocks;
    asked = rw (flat_map-append (kind.asks source) xs (x ∷ rest))
        (asked_then _ _ old mid new row.blocks copy.blocks (Some e) row.asked
        (asked_refused (kind.asks source x) (flat_map (kind.asks source) rest) mid new copy.blocks e copy.placed.asked));
    apart = both_apart copy;
    frame = both_frame copy;
    readable = (row_stays copy).0.readable;
    made = tt;
  }

  module _ {between : View} {w : T} (copy : Copies kind ids source mid between x (Ok w)) where
    -- A copy of one more comes after the others before it is put into the block,
    pub made_between : IsMade (row_of kind) ((row_of kind).by_ids ids ((row_of kind).whole source (xs ++ x ∷ []))) between.memory
        (row.blocks ++ copy.blocks) (ys ++ w ∷ [])
    made_between =
        let first = made_stays (row_lawful kind is) copy.placed.frame row.made (apart_of_none row.blocks) in
        let one = copy.made in
        record {
          held = all_more (kind.is_held between.memory) ys w first.held one.held;
          means = simp map-append (cc (first.means, one.means));
          trim = all_more (kind.is_trim between.memory) ys w first.trim one.trim;
          deep = subst (λ ds. IsPermutation ds (row.blocks ++ copy.blocks)) (flat_map_more (kind.deep between.memory) [] ys w)
              (IsPermutation-append (flat_map (kind.deep between.memory) ys) row.blocks (kind.deep between.memory w) copy.blocks first.deep
              one.deep);
        }

    -- and is apart from the block.
    pub apart_between : AreAllApart (row.blocks ++ copy.blocks) (target ∷ [])
    apart_between = all_apart target (row.blocks ++ copy.blocks) (both_apart copy).0

    -- Of one more there is one more, after the others in the block.
    pub row_added : {Y : Type 0} {y : Y} {new : View} → Frame between.memory new.memory (target ∷ []) (target ∷ [])
        → SamePlaces between new → IsTrue (is_readable new.memory.state target)
        → CopiesRow kind ids source old new target (xs ++ x ∷ []) (ys ++ w ∷ []) (Ok y)
    row_added {new} frame places readable =
        let bs = row.blocks ++ copy.blocks in
        record {
          blocks = bs;
          asked = rw (← flat_map_more (kind.asks source) [] xs x)
              (asked_same _ old _ _ bs (asked_then _ (kind.asks source x) old mid between row.blocks copy.blocks None row.asked
              copy.placed.asked) places);
          apart = both_apart copy;
          frame = frame_then _ _ _ _ _ _ (both_frame copy) (frame_beside _ _ _ _ bs frame);
          readable = readable;
          made = made_stays (row_lawful _ is) frame made_between apart_between;
        }

-- ---- Copies into a block

-- The first i of these values are copied, to the front of the block.
abbrev pub CopiesFirst : {T : Type 0} → Ghosts T → Kind T → CloneInSemanticIds → Memory → View → View → Block → List T → ℕ → Type 0
CopiesFirst item kind ids source old new target xs i =
    CopiesRow {X = Unit {0}} kind ids source old new target (take i xs)
    (elements item.SIZE item.decoded i (bytes_of new.memory target)) (Ok tt)

module _ {T : Type 0} (item : Ghosts T) {kind : Kind T} (is : IsLawful kind) {ids : CloneInSemanticIds} {source : Memory} {old : View}
    {target : Block} (xs : List T) where
  pub first_none : IsTrue (is_readable old.memory.state target) → CopiesFirst item kind ids source old old target xs 0
  first_none readable = rw (elements-empty item.SIZE item.decoded 0 (bytes_of old.memory target) refl) (row_none readable)

  module _ (i : ℕ) {mid : View} (row : CopiesFirst item kind ids source old mid target xs i) {x : T} (found : slice_get xs i ≡ Some x) where
    pub first_more : {between new : View} {at : ℕ} {w : T} {list : List ℕ} → Copies kind ids source mid between x (Ok w)
        → WritesBlock between.memory new.memory target at list → new.source ≡ between.source
        → elements item.SIZE item.decoded (i + 1) (bytes_of new.memory target)
        ≡ elements item.SIZE item.decoded i (bytes_of between.memory target) ++ w ∷ []
        → CopiesFirst item kind ids source old new target xs (i + 1)
    first_more {between} {new} {at} {list} copy writes source_same push =
        let stays = (row_stays is row x copy).0 in
        rw (take_more xs i x found, push, stays.bytes)
        (row_added is row x copy writes.frame (wrote_same between new target at list writes source_same)
        (rw (wrote_readable between.memory new.memory target target at list writes) stays.readable))

    pub first_refused : {Y : Type 0} {new : View} {zs : List T} {e : AllocError} → Copies kind ids source mid new x (Err e)
        → CopiesRow {X = Y} kind ids source old new target xs zs (Err e)
    first_refused {Y} {new} {zs} {e} copy =
        subst (λ vs. CopiesRow {X = Y} kind ids source old new target vs zs (Err e)) (sym (cut_at xs i x found))
        (row_refused is row x (drop (suc i) xs) copy)

  pub first_all : {new : View} (i n : ℕ) → i ≡ n → length xs ≤ n → CopiesFirst item kind ids source old new target xs i
      → CopiesRow {X = Unit {0}} kind ids source old new target xs (elements item.SIZE item.decoded n (bytes_of new.memory target)) (Ok tt)
  first_all i n last all row = rw (last, take_all n xs all) at row
