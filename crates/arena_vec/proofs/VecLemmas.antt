-- What calls do to a vector.
use Rattle.std.proofs.Common.{◌≡◌, ℕ, ◌+◌, ◌-◌, ◌*◌, ◌%◌, ◌^◌, ◌<◌, ◌≤◌, List, [], ◌∷◌, length, take, drop, refl, sym, ap, ◌∙◌, arith, Ok, Err, set}
use Rattle.std.proofs.Math.Nat.{mul-le-mul_left, mul-le-mul_right, mod-eq_of_lt}
use Rattle.std.specs.List.{insert, remove_range}
use Rattle.arena_chunks.specs.Memory.{Memory, image}
use Rattle.arena_chunks.specs.Source.{View}
use Rattle.arena_chunks.specs.Frame.{Frame}
use Rattle.arena_chunks.proofs.Layers.{frame_then, frame_reflexive, take_bytes}
use Rattle.arena_items.specs.declared.item.Item.{Ghosts}
use Rattle.arena_items.specs.Values.{elements, bytes_of, IsHeld}
use Rattle.arena_items.proofs.Layers.{rows_before, elements-empty, length-elements, written_held, elements-cut, elements-front, front_readable, wrote_same, room_then, room_refused}
use Rattle.raw_vec.specs.Growth.{empty_capacity, new_growth}
use Rattle.raw_vec.specs.Held.{raw_values, empty_block}
use Rattle.arena_items.specs.Room.{MakesRoom, SamePlaces}
use Rattle.arena_items.specs.Rows.{over}
use Rattle.raw_vec.specs.Storage.{IsGrown, Makes}
use Rattle.arena_vec.specs.Vecs.{IsVecIn, vec_list}
use Rattle.arena_vec.specs.Changes.{Becomes, Grows}
use Rattle.arena_items.specs.declared.room.Growth.{Growth}
use Rattle.arena_items.specs.declared.room.AllocError.{AllocError}
use Rattle.raw_vec.specs.declared.raw.RawVec.{RawVec}
use Rattle.arena_vec.specs.declared.vec.Vec.{Vec}
use Rattle.arena_vec.proofs.RowLemmas.{moved_down, moved_up}

-- ---- Vectors

-- n values of a vector are in its block
pub room_of : {T : Type 0} (item : Ghosts T) (m : Memory) (v : Vec T) (n : ℕ) → IsVecIn item m v → n ≤ v.raw.cap
    → n * item.SIZE ≤ v.raw.block.size
room_of item m v n held within = omega (arith, held.place.of_size, mul-le-mul_right item.SIZE within)

-- As long as no cursor moves it is held, with any length up to its capacity.
pub still_held : {T : Type 0} (item : Ghosts T) (old new : View) (v : Vec T) (n : ℕ) → IsVecIn item old.memory v → n ≤ v.raw.cap
    → SamePlaces old new
    → IsVecIn item new.memory (record { raw = record { block = v.raw.block; len = n; cap = v.raw.cap; of = v.raw.of } })
still_held item old new v n held within same = grind (arith, rw (← same.state) at held.place)

-- Bytes of the block were written, so that the first n values are this list.
pub becomes : {T : Type 0} (item : Ghosts T) (old new : View) (v : Vec T) (n : ℕ) (list : List T)
    → IsVecIn item old.memory v → n ≤ v.raw.cap → SamePlaces old new → Frame old.memory new.memory (v.raw.block ∷ []) (v.raw.block ∷ [])
    → raw_values item new.memory v.raw n ≡ list
    → Becomes item old new v list (record { raw = record { block = v.raw.block; len = n; cap = v.raw.cap; of = v.raw.of } })
becomes item old new v n list held within same frame values =
    grind (arith, still_held item old new v n held within same, length-elements item.SIZE item.decoded n (bytes_of new.memory v.raw.block))

-- Nothing was written, and fewer values count.
pub shortened : {T : Type 0} (item : Ghosts T) (view : View) (v : Vec T) (n : ℕ) → IsVecIn item view.memory v → n ≤ v.raw.len
    → Becomes item view view v (take n (vec_list item view.memory v))
    (record { raw = record { block = v.raw.block; len = n; cap = v.raw.cap; of = v.raw.of } })
shortened item view v n held fewer =
    becomes item view view v n (take n (vec_list item view.memory v)) held (omega (arith, held.within))
    (record { state = refl; statistics = refl; source = refl }) (frame_reflexive view.memory (v.raw.block ∷ []))
    (elements-cut item.SIZE item.decoded n v.raw.len (bytes_of view.memory v.raw.block) fewer)

-- Nothing was written.
pub untouched : {T : Type 0} (item : Ghosts T) (view : View) (v : Vec T) (list : List T) → IsVecIn item view.memory v
    → vec_list item view.memory v ≡ list → Becomes item view view v list v
untouched item view v list held same =
    becomes item view view v v.raw.len list held held.within (record { state = refl; statistics = refl; source = refl })
    (frame_reflexive view.memory (v.raw.block ∷ [])) same

-- Storage was made, and bytes were written there, so that the first n values are this list.
pub makes : {T : Type 0} (item : Ghosts T) (old mid new : View) (room : ℕ) (raw : RawVec T) (n : ℕ) (list : List T)
    → Makes {X = RawVec T} item (λ r. r) old mid room [] (Ok raw) → n ≤ raw.cap → SamePlaces mid new
    → Frame mid.memory new.memory (raw.block ∷ []) (raw.block ∷ []) → raw_values item new.memory raw n ≡ list
    → Makes {X = Vec T} item (λ v. v.raw) old new room list (Ok (record {
      raw =
          record { block = raw.block; len = n; cap = raw.cap; of = raw.of };
    }))
makes {T} item old mid new room raw n list made within same frame values =
    let w : Vec T = record { raw = record raw { len = n } } in
    grind (
      arith,
      room_then item.SIZE item.ALIGN old mid new (empty_block item.ALIGN) (empty_capacity item.SIZE) (new_growth item.SIZE room)
          (λ (r : RawVec T). r.block) (λ (v : Vec T). v.raw.block) raw w refl made.made same,
      rw (← same.state) at made.held.place,
      length-elements item.SIZE item.decoded n (bytes_of new.memory raw.block),
      frame_then old.memory mid.memory new.memory [] (raw.block ∷ []) (raw.block ∷ []) made.frame frame,
    )

module _ {T X : Type 0} (item : Ghosts T) (old mid : View) (v : Vec T) (growth : Growth) where
  -- Room was made, and bytes were written there, so that the first n values are this list.
  pub grows : (new : View) (raw : RawVec T) (n : ℕ) (list : List T) (x : X)
      → MakesRoom item.SIZE item.ALIGN old mid v.raw.block v.raw.cap growth (λ r. r.block) (Ok raw)
      → IsGrown item old.memory mid.memory v.raw growth raw → n ≤ raw.cap → SamePlaces mid new
      → Frame mid.memory new.memory (raw.block ∷ []) (raw.block ∷ []) → raw_values item new.memory raw n ≡ list
      → Grows item old new v growth list (record { raw = record { block = raw.block; len = n; cap = raw.cap; of = raw.of } }) (Ok x)
  grows new raw n list x made grown within same frame values = grind (
    arith,
    room_then item.SIZE item.ALIGN old mid new v.raw.block v.raw.cap growth (λ (r : RawVec T). r.block) (λ (y : X). raw.block) raw x refl
        made same,
    rw (← same.state) at grown.held.place,
    length-elements item.SIZE item.decoded n (bytes_of new.memory raw.block),
    frame_then old.memory mid.memory new.memory (v.raw.block ∷ []) (raw.block ∷ []) (raw.block ∷ []) grown.frame frame,
  )

  -- There was no room.
  pub refused : (list : List T) (e : AllocError) → IsVecIn item old.memory v
      → MakesRoom item.SIZE item.ALIGN old mid v.raw.block v.raw.cap growth (λ (r : RawVec T). r.block) (Err e)
      → mid.memory ≡ old.memory → Grows {X = X} item old mid v growth list v (Err e)
  refused list e held made same =
      let frame : Frame old.memory mid.memory (v.raw.block ∷ []) (v.raw.block ∷ []) = rw same (frame_reflexive old.memory _) in
      let here : IsVecIn item mid.memory v = rw same held in
      grind (
        arith,
        room_refused {Y = X} item.SIZE item.ALIGN old mid v.raw.block v.raw.cap growth (λ (r : RawVec T). r.block)
            (λ (y : X). v.raw.block) e made,
        here,
        frame,
      )

module _ {T : Type 0} (item : Ghosts T) (old new : Memory) (v : Vec T) (growth : Growth) (raw : RawVec T) (held : IsVecIn item old v)
    (grown : IsGrown item old new v.raw growth raw) where
  -- A grown vector has its list,
  pub same_list : raw_values item new raw raw.len ≡ vec_list item old v
  same_list = ap (raw_values item new raw) grown.len ∙ grown.values v.raw.len held.within

  -- as a front of the values if more are looked at.
  pub same_front : (n : ℕ) → raw.len ≤ n → take raw.len (raw_values item new raw n) ≡ vec_list item old v
  same_front n more = sym (elements-cut item.SIZE item.decoded raw.len n (bytes_of new raw.block) more) ∙ same_list

-- The bytes of as many values as fit in 32 bits fit in 64 bits.
pub whole_bytes : (n size : ℕ) → n < 2 ^ 32 → size ≤ 2 ^ 24 → n * size % 2 ^ 64 ≡ n * size
whole_bytes n size few small = mod-eq_of_lt (omega (arith, mul-le-mul_left n small, few))

-- A front of the block is a boxed slice of that many values.
module _ {T : Type 0} (item : Ghosts T) (m : Memory) (v : Vec T) (held : IsVecIn item m v) where
  pub slice_held : IsHeld (v.raw.len * item.SIZE) item.ALIGN m.state (record v.raw.block { size = v.raw.len * item.SIZE })
  slice_held =
      let room = room_of item m v v.raw.len held held.within in
      grind (arith, front_readable m.state v.raw.block (v.raw.len * item.SIZE) held.place.readable room, held.place)

  pub slice_same : elements item.SIZE item.decoded v.raw.len (bytes_of m (record v.raw.block { size = v.raw.len * item.SIZE }))
      ≡ vec_list item m v
  slice_same =
      ap (elements item.SIZE item.decoded v.raw.len)
      (sym (take_bytes (image m) v.raw.block.addr v.raw.block.size (v.raw.len * item.SIZE) (room_of item m v v.raw.len held held.within)))
      ∙ elements-front item.SIZE item.decoded v.raw.len (bytes_of m v.raw.block)

-- what comes after a range moved down
pub closed : {T : Type 0} (size : ℕ) (dec : List ℕ → T) (n start end : ℕ) (old new : List ℕ) → start ≤ end → end ≤ n
    → elements size dec n new ≡ over (elements size dec n old) start (take (n - end) (drop end (elements size dec n old)))
    → elements size dec (n - (end - start)) new ≡ remove_range (elements size dec n old) start end
closed size dec n start end old new order within moved =
    let long = length-elements size dec n old in
    elements-cut size dec (n - (end - start)) n new (omega arith) ∙ ap (take (n - (end - start))) moved
    ∙ (rw long at (moved_down (elements size dec n old) start end order (omega (arith, long))))

-- a value was inserted
pub inserted : {T : Type 0} (xs one two three : List T) (n i : ℕ) (v : T) → take n one ≡ xs → length one ≡ n + 1 → i ≤ n
    → two ≡ over one (i + 1) (take (n - i) (drop i one)) → three ≡ set two i v → three ≡ insert xs i v
inserted xs one two three n i v front long within moved put =
    put ∙ ap (λ l. set l i v) moved ∙ moved_up one n i v long within ∙ ap (λ l. insert l i v) front

-- for automatic proof
pub ruleset vec_laws = (
  rows_before,
  length-elements,
  elements-empty,
  frame_reflexive,
  room_of,
  written_held,
  wrote_same,
  shortened,
  room_then,
  room_refused,
  same_list,
  mul-le-mul_right,
  slice_held,
  slice_same,
)
