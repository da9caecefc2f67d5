-- A chain whose boxes are placed one after another, and one whose last number is replaced.
use Rattle.std.proofs.Common.{◌≡◌, ℕ, ◌∙◌, sym, subst, [], ◌∷◌, Ok}
use Rattle.std.specs.Prelude.{slice_set}
use Rattle.arena_chunks.specs.Memory.{Memory}
use Rattle.arena_chunks.specs.Source.{View}
use Rattle.arena_chunks.specs.Frame.{Frame}
use Rattle.arena_chunks.proofs.Layers.{frame_then, frame_beside, placed_pairwise}
use Rattle.arena_items.specs.declared.item.Item.{Ghosts}
use Rattle.arena_items.specs.declared.boxes.Box.{Box}
use Rattle.arena_items.specs.Values.{IsBoxIn, box_value}
use Rattle.arena_items.specs.Typed.{PlacesBox}
use Rattle.arena_items.proofs.Layers.{box_held, box_same}
use Rattle.example_blocks.specs.declared.linked.Chain.{Chain}
use Rattle.example_blocks.specs.Chains.{First, Second, IsChain, second, third, numbers, blocks}
use Rattle.example_blocks.specs.laws.ChainLaws.{chain_is, numbers_are, blocks_are}

-- A chain of three boxes is held, with its numbers, and what was in use stays.
pub made : (inner : Ghosts Second) (number : Ghosts ℕ) (v0 v1 v2 : View) (y z : ℕ) (last : Box ℕ) (link : Box Second)
    → PlacesBox number v0 v1 (λ v. v ≡ z) (Ok last) → PlacesBox inner v1 v2 (λ v. v ≡ (y, last)) (Ok link)
    → (outer : Ghosts First) (x : ℕ) (v3 : View) (head : Box First) → PlacesBox outer v2 v3 (λ v. v ≡ (x, link)) (Ok head)
    → IsChain outer inner number v3.memory (record { first = head })
    × (numbers outer inner number v3.memory (record { first = head }) ≡ x ∷ y ∷ z ∷ [])
    × Frame v0.memory v3.memory [] (blocks outer inner v3.memory (record { first = head }))
made inner number v0 v1 v2 y z last link places_last places_link outer x v3 head places_head =
    let chain : Chain = record { first = head } in
    let last_frame : Frame v0.memory v1.memory [] (last.block ∷ []) = places_last.placed.1.outcome.frame in
    let link_frame : Frame v1.memory v2.memory [] (link.block ∷ []) = places_link.placed.1.outcome.frame in
    let head_frame : Frame v2.memory v3.memory [] (head.block ∷ []) = places_head.placed.1.outcome.frame in
    let last_held = box_held number v1.memory v2.memory [] (link.block ∷ []) last link_frame places_last.held tt in
    let last_kept : box_value number v3.memory last ≡ z =
    box_same number v2.memory v3.memory [] (head.block ∷ []) last head_frame last_held tt
    ∙ (box_same number v1.memory v2.memory [] (link.block ∷ []) last link_frame places_last.held tt ∙ places_last.value) in
    let link_value : box_value inner v3.memory link ≡ (y, last) =
    box_same inner v2.memory v3.memory [] (head.block ∷ []) link head_frame places_link.held tt ∙ places_link.value in
    let two = placed_pairwise v1 v2 _ _ link.block (last.block ∷ []) places_link.placed (places_last.held.readable, tt) (tt, tt) in
    let apart = placed_pairwise v2 v3 _ _ head.block (link.block ∷ last.block ∷ []) places_head.placed
    (places_link.held.readable, (last_held.readable, tt)) two in
    let both_frame = frame_then v0.memory v1.memory v2.memory [] (last.block ∷ []) (link.block ∷ last.block ∷ []) last_frame
    (frame_beside v1.memory v2.memory [] (link.block ∷ []) (last.block ∷ []) link_frame) in
    let all = frame_then v0.memory v2.memory v3.memory [] (link.block ∷ last.block ∷ []) _ both_frame
    (frame_beside v2.memory v3.memory [] (head.block ∷ []) (link.block ∷ last.block ∷ []) head_frame) in (
      chain_is outer inner number v3.memory chain _ _ _ places_head.value link_value last_kept places_head.held
          (box_held inner v2.memory v3.memory [] (head.block ∷ []) link head_frame places_link.held tt)
          (box_held number v2.memory v3.memory [] (head.block ∷ []) last head_frame last_held tt) apart,
      numbers_are outer inner number v3.memory chain _ _ _ places_head.value link_value last_kept,
      subst (Frame v0.memory v3.memory [])
          (sym (blocks_are outer inner number v3.memory chain _ _ _ places_head.value link_value last_kept)) all,
    )

-- If the last box is set, the chain is held, and has the number in the last place and the same blocks.
pub set : (outer : Ghosts First) (inner : Ghosts Second) (number : Ghosts ℕ) (old new : Memory) (c : Chain) (z : ℕ)
    → IsChain outer inner number old c
    → Frame old new ((third outer inner old c).block ∷ []) ((third outer inner old c).block ∷ [])
    → box_value number new (third outer inner old c) ≡ z → IsBoxIn number new (third outer inner old c)
    → IsChain outer inner number new c × (numbers outer inner number new c ≡ slice_set (numbers outer inner number old c) 2 z)
    × (blocks outer inner new c ≡ blocks outer inner old c)
set outer inner number old new c z is frame value held =
    let head_same = box_same outer old new _ _ c.first frame is.first (is.apart.0.1.0, tt) in
    let link_same = box_same inner old new _ _ (second outer old c) frame is.second (is.apart.1.0.0, tt) in (
      chain_is outer inner number new c _ _ _ head_same link_same value
          (box_held outer old new _ _ c.first frame is.first (is.apart.0.1.0, tt))
          (box_held inner old new _ _ (second outer old c) frame is.second (is.apart.1.0.0, tt)) held is.apart,
      numbers_are outer inner number new c _ _ _ head_same link_same value,
      blocks_are outer inner number new c _ _ _ head_same link_same value,
    )
