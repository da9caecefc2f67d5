-- Maps in an arena of their own, after other calls; and lists whose values are checked one by one.
use Rattle.std.proofs.Common.{◌≡◌, ℕ, zero, suc, inl, inr, ◌+◌, ◌≤◌, List, [], ◌∷◌, Option, Some, None, length, take, add-one, arith, refl, subst, IsTrue}
use Rattle.std.specs.Prelude.{IfSome, slice_get}
use Rattle.std.specs.List.{AllByRecursion}
use Rattle.std.proofs.lemmas.List.{take_all}
use Rattle.arena_chunks.specs.Memory.{Memory, is_readable}
use Rattle.arena_chunks.specs.Source.{View}
use Rattle.arena_chunks.specs.Answers.Answer.{Placed}
use Rattle.arena_chunks.specs.BlockCalls.{PlacesBlock}
use Rattle.arena_chunks.specs.Frame.{Frame, AreAllApart, AreBlocksApart}
use Rattle.arena_store.specs.declared.block.Block.{Block}
use Rattle.arena_chunks.proofs.Layers.{frame_keeps_all}
use Rattle.arena_items.proofs.Layers.{stays_agree, stays_apart, stays_readable}
use Rattle.arena_hash.specs.laws.AgreeLaws.{held-agree}
use Rattle.arena_hash.specs.Contents.{Key, Kind}
use Rattle.arena_hash.specs.Maps.{footprint}
use Rattle.arena_hash.specs.Slots.{items}
use Rattle.arena_hash.specs.declared.map.HashMap.{HashMap}
use Rattle.collection_tests.specs.Held.{ArePlain, IsKept}

-- keys whose texts have no bytes are plain
pub plain : {K : Type 0} (key : Key K) → ((x : K) → (key.text x).size ≡ 0) → ArePlain key
plain key none = record {
  readable = λ state x. rw (none x) refl;
  apart = λ x b some. absurd (omega (arith, none x, some));
}

-- What holds of the first n values holds of all if there are at most n.
pub held_all : {A : Type 0} (P : A → Type 0) (xs : List A) (n : ℕ) → AllByRecursion P (take n xs) → length xs ≤ n → AllByRecursion P xs
held_all P xs n all few = rw (take_all n xs few) at all

-- What holds of all values in the first slots, and of the value in the next one, holds of all up to that slot.
pub held_next : {A : Type 0} (P : A → Type 0) (slots : List (Option A)) (i : ℕ) (o : Option A) → slice_get slots i ≡ Some o
    → IfSome o P → AllByRecursion P (items (take i slots)) → AllByRecursion P (items (take (i + 1) slots))
held_next P [] i o at here all = absurd (cc at)
held_next P (None ∷ slots) zero o at here all = tt
held_next P (Some x ∷ slots) zero o at here all = (subst (λ p. IfSome p P) (let same : o ≡ Some x = cc in same) here, tt)
held_next P (None ∷ slots) (suc i) o at here all = rw add-one (rw add-one at (held_next P slots i o at here all))
held_next P (Some x ∷ slots) (suc i) o at here all = rw add-one (all.0, rw add-one at (held_next P slots i o at here all.1))

-- So it holds of all values in a table's slots, once all slots are checked.
pub held_slots : {A : Type 0} (P : A → Type 0) (slots : List (Option A)) (n : ℕ) → length slots ≤ n
    → AllByRecursion P (items (take n slots)) → AllByRecursion P (items slots)
held_slots P slots n few all = rw (take_all n slots few) at all

-- blocks are disjoint from none
apart_none : (bs : List Block) → AreAllApart bs []
apart_none [] = tt
apart_none (b ∷ bs) = (tt, apart_none bs)

-- disjointness is symmetric
apart_turned : (b c : Block) → AreBlocksApart b c → AreBlocksApart c b
apart_turned b c apart = λ some other. elim (apart other some) [
  | inl before ↦ inr before
  | inr behind ↦ inl behind
]

module _ {K V S : Type 0} (k : Kind K V S) (m : HashMap K V S) where
  -- A map is still held after a call that places blocks,
  pub kept_beside : (old new : Memory) (after : List Block) → Frame old new [] after → IsKept k old m → IsKept k new m
  kept_beside old new after frame kept =
      let held = kept.held in
      let blocks = footprint k old m in
      let stays = frame_keeps_all old new [] after blocks frame (held.handle.place.readable, held.texts) (apart_none blocks) in
      record {
        keys_small = kept.keys_small;
        values_small = kept.values_small;
        held = held-agree k old new m (stays_agree old new after blocks stays) held (stays_readable old new after blocks stays);
      }

  -- and disjoint from a new block, which is readable.
  pub placed_beside : (old new : View) (size align : ℕ) (b : Block) → PlacesBlock old new size align (Placed b) → IsKept k old.memory m
      → IsKept k new.memory m × IsTrue (is_readable new.memory.state b) × AreBlocksApart b m.table.block
  placed_beside old new size align b placed kept =
      let held = kept.held in
      let blocks = footprint k old.memory m in
      let is = placed.1.outcome in
      let stays = frame_keeps_all old.memory new.memory [] (b ∷ []) blocks is.frame (held.handle.place.readable, held.texts)
      (apart_none blocks) in
      let apart = stays_apart old.memory new.memory (b ∷ []) blocks stays in (
        kept_beside old.memory new.memory (b ∷ []) is.frame kept,
        is.of_layout.readable,
        apart_turned m.table.block b apart.0.0,
      )
