-- Values that are taken from the front of a range that is removed, and those that replace it.
use Rattle.std.proofs.Common.{◌≡◌, ℕ, suc, ◌+◌, ◌<◌, List, [], ◌∷◌, ◌++◌, length, take, drop, set, get_or, refl, sym, ap, ◌∙◌, add-one, Option, Result, OnOk, OnErr}
use Rattle.std.proofs.Math.Seq.{drop-cons}
use Rattle.std.proofs.lemmas.Iterator.{YieldsList, items_from_drains}
use Rattle.std.proofs.lemmas.Iterator.Consumers.{YieldsList-so_far}
use Rattle.std.proofs.lemmas.List.{take_more, take_more_set, map-id}
use Rattle.std.proofs.lemmas.Result.{on_ok_weaker, on_err_weaker}
use Rattle.std.specs.List.{remove_range, replace_range}
use Rattle.arena_chunks.specs.Memory.{Memory}
use Rattle.arena_chunks.specs.Source.{View}
use Rattle.arena_items.specs.declared.item.Item.{Ghosts}
use Rattle.arena_items.specs.declared.room.AllocError.{AllocError}
use Rattle.arena_vec.specs.Changes.{Becomes}
use Rattle.arena_vec.specs.Draining.{SameDrain}
use Rattle.arena_vec.specs.Splicing.{Replaces}
use Rattle.arena_vec.specs.Vecs.{vec_list}
use Rattle.arena_vec.specs.declared.drain.Drain.{Drain}
use Rattle.arena_vec.specs.declared.vec.Vec.{Vec}

-- After the first n values are removed, the rest is left.
pub rest_left : {T S : Type 0} (item : Ghosts T) (d e : Drain T S) (old : View) (v : Vec T) (n : ℕ) (new : View) (w : Vec T)
    → SameDrain item d e → d.vec.now ≡ v → d.arena.now ≡ old → d.start ≡ 0 → d.end ≡ n
    → Becomes item e.arena.now new e.vec.now (remove_range (vec_list item e.arena.now.memory e.vec.now) e.start e.end) w
    → Becomes item old new v (drop n (vec_list item old.memory v)) w
rest_left item d e old v n new w same of in_arena start end becomes =
    rw (same.vec ∙ of, same.arena ∙ in_arena, same.start ∙ start, same.end ∙ end) at becomes

module _ {T : Type 0} (list : List T) (i : ℕ) (within : i < length list) where
  -- There is a value to take,
  pub some_left : T → drop i list ≡ [] → ⊥
  some_left d none = let cut : drop i list ≡ get_or list i d ∷ drop (suc i) list = drop-cons list i d within in cc

  module _ (x : T) (next : List T) (is : drop i list ≡ x ∷ next) where
    cut : drop i list ≡ get_or list i x ∷ drop (suc i) list
    cut = drop-cons list i x within

    -- what is left then is the rest,
    pub left_more : next ≡ drop (i + 1) list
    left_more = let parts = cut in rw add-one cc

    -- and the value was the next one of the list.
    pub taken_more : (out : List T) → i < length out → take i out ≡ take i list → take (i + 1) (set out i x) ≡ take (i + 1) list
    taken_more out space so_far =
        let same : get_or list i x ≡ x = (let parts = cut in cc) in
        take_more_set out i x space ∙ ap (λ l. l ++ x ∷ []) so_far ∙ sym (take_more list i x within ∙ ap (λ y. take i list ++ y ∷ []) same)

-- The front of a front is a front.
front : {X : Type 0} (xs ys all : List X) → xs ++ ys ≡ take (length (xs ++ ys)) all → xs ≡ take (length xs) all
front [] ys all is = refl
front (x ∷ xs) ys [] is = cc
front (x ∷ xs) ys (z ∷ all) is = let rest = front xs ys all (ap (drop 1) is) in cc

-- The values of an iterator replace the range: all of them, or the first ones if a call failed.
module _ {T I : Type 0} {item : Ghosts T} {steps : I → Option T → I → Type 0} {iter : I} {old new : Memory} {v w : Vec T} {start end : ℕ}
    {result : Result (Unit {0}) AllocError} {values : List T} (gives : YieldsList steps (λ x. x) iter values)
    (is : Replaces item steps iter old new v start end w result) where
  pub all_placed : OnOk result (vec_list item new w ≡ replace_range (vec_list item old v) start end values)
  all_placed = on_ok_weaker result
      (λ drains. is.list_is ∙ ap (replace_range (vec_list item old v) start end) (sym (map-id is.items) ∙ items_from_drains is.items
      (drains.1.0, drains.1.1, λ _. (drains.0, drains.1.2)) gives)) is.all

  pub some_placed : OnErr result ((n : ℕ) × (vec_list item new w ≡ replace_range (vec_list item old v) start end (take n values)))
  some_placed = on_err_weaker result
      (λ taken. (
        length is.items,
        is.list_is ∙ ap (replace_range (vec_list item old v) start end) (front is.items taken.0 values (sym (map-id _)
            ∙ YieldsList-so_far gives (is.items ++ taken.0) taken.1 taken.2)),
      )) is.some
