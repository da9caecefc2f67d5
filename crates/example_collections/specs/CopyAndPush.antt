-- A list that is copied, and to which a value is then appended.
use Rattle.std.specs.Prelude.{◌≡◌, ◌+◌, ◌++◌, Result, Ok, Err, [], ◌∷◌}
use Rattle.arena_chunks.specs.Source.{View}
use Rattle.arena_items.specs.declared.item.Item.{Ghosts}
use Rattle.arena_items.specs.declared.room.AllocError.{AllocError}
use Rattle.arena_vec.specs.Changes.{Grows}
use Rattle.arena_vec.specs.Growth.{amortised_growth}
use Rattle.arena_vec.specs.Vecs.{vec_list}
use Rattle.arena_vec.specs.declared.vec.Vec.{Vec}
use Rattle.arena_clone.specs.Copies.{Copies}
use Rattle.arena_clone.specs.Kinds.{Kind, vec_of}
use Rattle.arena_clone.specs.Placing.{answer_of}
use Rattle.arena_kinds.specs.declared.ids.CloneInSemanticIds.TheVariants.{With}

-- If the list was copied, a value is appended to it. The result is the copy, or the first error.
abbrev pub PushesAfter : {T : Type 0} → Ghosts T → View → View → Vec T → T → Result (Vec T) AllocError → Vec T
    → Result (Vec T) AllocError → Type 0
PushesAfter item between new v value (Err e) w result = (result ≡ Err e) × (w ≡ v) × (new ≡ between)
PushesAfter item between new v value (Ok copy) w result = (pushed : Result (Unit {0}) AllocError)
    × Grows item between new v (amortised_growth item.SIZE v.raw.cap (v.raw.len + 1)) (vec_list item between.memory v ++ value ∷ []) w
    pushed × (result ≡ answer_of (λ u. copy) pushed)

-- The list is copied first, with its ids.
pub record CopiesThenPushes {T : Type 0} (item : Ghosts T) (kind : Kind T) (old new : View) (v : Vec T) (value : T) (w : Vec T)
    (result : Result (Vec T) AllocError) : Type 0 where
  pub between : View
  pub copied : Result (Vec T) AllocError
  pub copies : Copies (vec_of item kind) With old.memory old between v copied
  pub pushes : PushesAfter item between new v value copied w result
