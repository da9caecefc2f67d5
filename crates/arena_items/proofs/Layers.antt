-- The lemmas that crates above cite: sizes of types, what blocks of values need, and what becomes of boxes in calls on
-- other blocks.
use Rattle.std.proofs.Common.{◌≡◌, ℕ, ◌+◌, ◌*◌, ◌^◌, ◌<◌, ◌≤◌, max, ap, refl, subst, ◌∙◌, arith, List, [], ◌∷◌, Some, length, replicate, take, drop, take_all}
use Rattle.std.specs.Prelude.{slice_get}
use Rattle.std.proofs.lemmas.Bool.Decides.{nat_tests}
use Rattle.std.specs.Array.{FillsFrom}
use Rattle.arena_rules.specs.Rounding.{up}
use Rattle.arena_chunks.specs.Memory.{Memory}
use Rattle.arena_chunks.specs.Source.{View}
use Rattle.arena_chunks.specs.Answers.Answer.{Placed}
use Rattle.arena_chunks.specs.Frame.{Frame, IsApart}
use Rattle.arena_store.specs.declared.block.Block.{Block}
use Rattle.arena_chunks.proofs.Layers.{frame_keeps}
use Rattle.arena_items.specs.Layout.{IsItemLayout, option_size, pair_size, second_at}
use Rattle.arena_items.specs.laws.LayoutLaws.{IsAlign-bounds, up-is, pair_layout}
use Rattle.arena_items.specs.Placing.{PlacesArray}
use Rattle.arena_items.specs.Values.{IsBoxIn, box_value}
use Rattle.arena_items.specs.declared.item.Item.{Ghosts}
use Rattle.arena_items.specs.declared.boxes.Box.{Box}
use Rattle.arena_items.proofs.ArrayLemmas.{array_layout}
pub use Rattle.arena_items.proofs.PlacingLemmas.{row_is_layout, placed_held, written_held}
pub use Rattle.arena_items.proofs.ArrayLemmas.{Yields-push}
pub use Rattle.arena_items.proofs.ElementLemmas.{
  rows_before,
  length-elements,
  elements-empty,
  elements-get,
  elements-set,
  elements-same,
  elements-all,
  elements-cut,
  elements-drop,
  elements-front,
  elements-over,
  drop_item,
}
pub use Rattle.arena_items.proofs.RoomLemmas.{
  zero_or_more,
  front_readable,
  values_kept,
  taken_held,
  taken_frame,
  taken_front,
  same_then,
  wrote_same,
  room_then,
  room_refused,
  refused_as,
  refusal_leaves,
  whole_refusal,
}
pub use Rattle.arena_items.proofs.AskLemmas.{
  still,
  by_size,
  empty_solid,
  capacity_is,
  block_taken,
  block_asked,
  growth_taken,
  growth_asked,
  table_taken,
  table_asked,
  asked_before,
  runs_behind,
  runs_then,
  ends_then,
  ends_sooner,
}
pub use Rattle.arena_items.proofs.CostLemmas.{
  taken_refused,
  room_brings,
  room_refused_as,
  room_costs,
  costs_nothing,
  costs_weaken,
  costs_ok,
  costs_then,
}
pub use Rattle.arena_items.proofs.FootprintLemmas.{stays_readable, stays_agree, stays_apart}

-- ---- Sizes

-- An option takes at most 32 bytes more than its value.
pub option_at_most : (size align : ℕ) → IsItemLayout size align → option_size size align ≤ size + 32
unfolding option_size
option_at_most size align h =
    let a = IsAlign-bounds align h.is_align in
    omega (arith, a.0, a.1, (up-is 1 align h.is_align).below, (up-is (up 1 align + size) align h.is_align).below)

-- A pair takes at most 32 bytes more than its parts.
pub pair_at_most : (size align size' align' : ℕ) → IsItemLayout size align → IsItemLayout size' align'
    → pair_size size align size' align' ≤ size + size' + 32
unfolding pair_size second_at
pair_at_most size align size' align' h k =
    let a = IsAlign-bounds align h.is_align in
    let b = IsAlign-bounds align' k.is_align in
    let greater = (pair_layout size align size' align' h k).is_align in
    let c = IsAlign-bounds (max align align') greater in
    let all = up-is (second_at size align' + size') (max align align') greater in
    omega (arith, a.1, b.1, c.1, (up-is size align' k.is_align).below, all.below)

-- ---- Boxes in calls on other blocks

module _ {T : Type 0} (item : Ghosts T) (old new : Memory) (before after : List Block) (b : Box T)
    (frame : Frame old new before after) (held : IsBoxIn item old b) (apart : IsApart b.block.addr b.block.size before) where
  -- One whose block is apart is held,
  pub box_held : IsBoxIn item new b
  box_held = grind (arith, held, frame_keeps old new before after b.block frame held.readable apart)

  -- has the same value,
  pub box_same : box_value item new b ≡ box_value item old b
  box_same = ap item.decoded (frame_keeps old new before after b.block frame held.readable apart).bytes

  -- and is apart from the blocks after.
  pub box_apart : IsApart b.block.addr b.block.size after
  box_apart = (frame_keeps old new before after b.block frame held.readable apart).apart

-- ---- Arrays

-- If a block was placed for n values, their bytes are below 2 ^ 63.
pub array_fits : (old new : View) (size align n : ℕ) (b : Block) → IsItemLayout size align
    → PlacesArray old new size align n (Placed b) → n * size < 2 ^ 63
array_fits old new size align n b h array =
    grind (arith, nat_tests, array_layout old new size align n b array, (up-is (n * size) align h.is_align).above)

-- A closure that gives the same at each index, and changes no capture, gives copies.
pub fills_same : {S A : Type 0} (R : S → ℕ → A → S → Type 0) (s : S) (v : A)
    → ((i : ℕ) (x : A) (t : S) → R s i x t → (x ≡ v) × (t ≡ s)) → (i : ℕ) (xs : List A) (t : S) → FillsFrom R s i xs t
    → xs ≡ replicate (length xs) v
fills_same R s v same i [] t run = refl
fills_same R s v same i (x ∷ xs) t (u, step, run) =
    let is = same i x u step in
    let rest = fills_same R s v same (i + 1) xs t (subst (λ w. FillsFrom R w (i + 1) xs t) is.1 run) in
    λ p. is.0 p ∷ rest p

-- A closure that gives the items of a list at their indices, and changes no capture, gives that list.
fills_items : {S A : Type 0} (R : S → ℕ → A → S → Type 0) (s : S) (all : List A)
    → ((i : ℕ) (x : A) (t : S) → i < length all → R s i x t → (slice_get all i ≡ Some x) × (t ≡ s))
    → (i : ℕ) (xs : List A) (t : S) → i + length xs ≤ length all → FillsFrom R s i xs t → xs ≡ take (length xs) (drop i all)
fills_items R s all item i [] t within run = refl
fills_items {S} {A} R s all item i (x ∷ xs) t within (u, step, run) =
    let is = item i x u (omega arith) step in
    let rest =
    fills_items R s all item (i + 1) xs t (omega arith) (subst (λ (w : S). FillsFrom R w (i + 1) xs t) is.1 run) in
    rw (drop_item all i x is.0) (ap (λ (ys : List A). x ∷ ys) rest)

pub fills_list : {S A : Type 0} (R : S → ℕ → A → S → Type 0) (s : S) (all : List A)
    → ((i : ℕ) (x : A) (t : S) → i < length all → R s i x t → (slice_get all i ≡ Some x) × (t ≡ s)) → (xs : List A) (t : S)
    → FillsFrom R s 0 xs t → length xs ≡ length all → xs ≡ all
fills_list {S} {A} R s all item xs t run same =
    fills_items R s all item 0 xs t (omega arith) run ∙ ap (λ (n : ℕ). take n all) same ∙ take_all (length all) all (omega arith)
