-- Vectors of which a range is replaced by an iterator's items.
use Rattle.std.specs.Prelude.{◌≡◌, ℕ, ◌+◌, ◌-◌, ◌<◌, ◌≤◌, Bool, true, false, ◌&&◌, nat_lt, List, [], ◌∷◌, ◌++◌, length, Option, Result, OnOk, OnErr, MatchResult}
use Rattle.std.specs.List.{replace_range}
use Rattle.std.specs.Iterator.{Count, IsFinite, Yields, Drains}
use Rattle.std.specs.Iterator.SizeHint.{IsWithinCount}
use Rattle.arena_chunks.specs.Memory.{Memory}
use Rattle.arena_chunks.specs.Source.{View}
use Rattle.arena_chunks.specs.Frame.{Frame}
use Rattle.arena_items.specs.declared.item.Item.{Ghosts}
use Rattle.raw_vec.specs.Growth.{fits, amortised_growth, empty_capacity}
use Rattle.raw_vec.specs.Held.{empty_block}
use Rattle.arena_vec.specs.Vecs.{IsVecIn, vec_list}
use Rattle.arena_vec.specs.Changes.{Becomes, Grows, IsNow}
use Rattle.arena_vec.specs.Extending.{TakesAll, TakesSome}
use Rattle.arena_vec.specs.Draining.{IsDrain, left, SameDrain}
use Rattle.arena_vec.specs.declared.drain.Drain.{Drain}
use Rattle.arena_items.specs.declared.room.Growth.{Growth}
use Rattle.arena_items.specs.declared.room.Growth.TheVariants.{Stays}
use Rattle.arena_items.specs.declared.room.AllocError.{AllocError}
use Rattle.arena_vec.specs.declared.splice.Splice.{Splice}
use Rattle.arena_vec.specs.declared.vec.Vec.{Vec}

-- the range that is drained
abbrev pub drain_of : {T S I : Type 0} → Splice T S I → Drain T S
drain_of s = record { vec = s.vec; arena = s.arena; start = s.start; end = s.end; front = s.front; back = s.back }

-- what is left of it
abbrev pub left_of : {T S I : Type 0} → Ghosts T → Splice T S I → List T
left_of item s = left item (drain_of s)

-- The range is held, and the iterator of its replacement can be called and ends.
pub record IsSplice {T S I : Type 0} (item : Ghosts T) (can : I → Type 0) (count : I → Count)
    (s : Splice T S I) : Type 0 where
  pub drains : IsDrain item (drain_of s)
  pub callable : can s.with
  pub ends : IsFinite (count s.with)

-- the same range of the same vector, which nothing changed, and the iterator as it was
pub record SameSplice {T S I : Type 0} (item : Ghosts T) (can : I → Type 0) (count : I → Count)
    (s t : Splice T S I) : Type 0 where
  pub splices : IsSplice item can count t
  pub same : SameDrain item (drain_of s) (drain_of t)
  pub with : t.with ≡ s.with

-- ---- What is in the range's place

-- All of an iterator's items are in a range's place; or, after a refusal, the first of those that were taken.
pub record Replaces {T I : Type 0} (item : Ghosts T) (steps : I → Option T → I → Type 0) (iter : I) (old new : Memory)
    (v : Vec T) (start end : ℕ) (w : Vec T)
    (result : Result (Unit {0}) AllocError) : Type 0 where
  pub items : List T
  pub held : IsVecIn item new w
  pub list_is : vec_list item new w ≡ replace_range (vec_list item old v) start end items
  pub len : w.raw.len ≡ length (replace_range (vec_list item old v) start end items)
  pub all : OnOk result (Drains steps iter items)
  pub some : OnErr result ((lost : List T) × (now : I) × Yields steps iter (items ++ lost) now)
  pub frame : Frame old new (v.raw.block ∷ []) (w.raw.block ∷ [])

-- ---- How it gets there

-- An iterator's items were put in a range's place, with no memory taken: as many as it has places, or all that came.
pub record Fills {T I : Type 0} (item : Ghosts T) (steps : I → Option T → I → Type 0) (iter now : I) (old new : View)
    (v : Vec T) (start end : ℕ) (w : Vec T)
    (full : Bool) : Type 0 where
  pub items : List T
  pub becomes : Becomes item old new v (replace_range (vec_list item old.memory v) start end items) w
  pub yields : full ≡ true → (length items ≡ end - start) × Yields steps iter items now
  pub drains : full ≡ false → (length items < end - start) × Drains steps iter items

-- Room was made for n values at an index. What is there then isn't specified.
pub record Widens {T : Type 0} (item : Ghosts T) (old new : View) (v : Vec T) (at n : ℕ) (w : Vec T)
    (result : Result (Unit {0}) AllocError) : Type 0 where
  pub values : List T
  pub many : OnOk result (length values ≡ n)
  pub grows : Grows item old new v (amortised_growth item.SIZE v.raw.cap (v.raw.len + n))
      (replace_range (vec_list item old.memory v) at at values) w result

-- nothing more was done
pub record IsDone {T : Type 0} (last result : Result (Unit {0}) AllocError) (between new : View) (u w : Vec T) : Type 0 where
  pub answer : result ≡ last
  pub view : new ≡ between
  pub vec : w ≡ u

-- After a growth an iterator's items were put in a range's place: as many as there are places then, or all that came.
-- If there was no room, or the items ended, nothing more was done. Otherwise `follows` holds of the iterator, the arena
-- and the vector then.
pub record FillsThen {T I : Type 0} (item : Ghosts T) (steps : I → Option T → I → Type 0) (iter : I) (old new : View)
    (v : Vec T) (growth : Growth) (start end places : ℕ) (w : Vec T) (result : Result (Unit {0}) AllocError)
    (follows : I → View → Vec T → Type 0) : Type 0 where
  pub room : Result (Unit {0}) AllocError
  pub items : List T
  pub now : I
  pub between : View
  pub filled : Vec T
  pub grows : Grows item old between v growth (replace_range (vec_list item old.memory v) start end items) filled room
  pub refused : OnErr room (IsDone room result between new filled w)
  pub ended : OnOk room (length items < places → Drains steps iter items × IsDone room result between new filled w)
  pub full : OnOk room (places ≤ length items → (length items ≡ places) × Yields steps iter items now × follows now between filled)

-- an iterator's items were appended by `extend`: all, or those before a refusal
abbrev pub Takes : {T I : Type 0} → Ghosts T → (I → Option T → I → Type 0) → (I → Count) → I → View → View → Vec T
    → Vec T → Result (Unit {0}) AllocError → Type 0
Takes item steps count iter old new v w result =
    MatchResult result (λ _. TakesAll item steps count iter old new v w) (λ e. TakesSome item steps count iter old new v w e)

-- a vector of no values and no storage
abbrev pub new_vec : {T : Type 0} → Ghosts T → Vec T
new_vec item = record {
  raw = record { block = empty_block item.ALIGN; len = 0; cap = empty_capacity item.SIZE; of = record {} };
}

-- An iterator's items were gathered in a new vector, while this one stayed as it was, and then inserted after a reserve
-- by their number. Nothing more was done after a refusal.
pub record PutsRest {T I : Type 0} (item : Ghosts T) (steps : I → Option T → I → Type 0) (count : I → Count) (iter : I)
    (old new : View) (v : Vec T) (at : ℕ) (w : Vec T)
    (result : Result (Unit {0}) AllocError) : Type 0 where
  pub gathered : Result (Unit {0}) AllocError
  pub between : View
  pub rest : Vec T
  pub gathers : Takes item steps count iter old between (new_vec item) rest gathered
  pub kept : IsNow item between.memory v (vec_list item old.memory v) v
  pub beside : Frame old.memory between.memory (v.raw.block ∷ []) (v.raw.block ∷ [])
  pub refused : OnErr gathered (IsDone gathered result between new v w)
  pub puts : OnOk gathered (Grows item between new v (amortised_growth item.SIZE v.raw.cap (v.raw.len + rest.raw.len))
      (replace_range (vec_list item old.memory v) at at (vec_list item between.memory rest)) w result)

-- whether to make room for the items that are said to come: there are some, and they fit
unfoldable pub is_useful : ℕ → ℕ → ℕ → Bool
is_useful size len hint = nat_lt 0 hint && fits size (len + hint)

-- An iterator's items were inserted: as many as it said are to come, if that is useful, and then all that were left.
pub record PutsMore {T I : Type 0} (item : Ghosts T) (steps : I → Option T → I → Type 0) (count : I → Count) (iter : I)
    (old new : View) (v : Vec T) (at : ℕ) (w : Vec T)
    (result : Result (Unit {0}) AllocError) : Type 0 where
  pub hint : ℕ
  pub told : IsWithinCount hint (count iter)
  pub unhinted : is_useful item.SIZE v.raw.len hint ≡ false → PutsRest item steps count iter old new v at w result
  pub hinted : is_useful item.SIZE v.raw.len hint ≡ true → FillsThen item steps iter old new v
      (amortised_growth item.SIZE v.raw.cap (v.raw.len + hint)) at at hint w result
      (λ now between u. PutsRest item steps count now between new u (at + hint) w result)

-- An iterator's items were put in a range's place. If nothing comes after it that is what `extend` does without the
-- range. Otherwise the range's places are filled first, and then others.
pub record Splices {T I : Type 0} (item : Ghosts T) (steps : I → Option T → I → Type 0) (count : I → Count) (iter : I)
    (old new : View) (v : Vec T) (start end : ℕ) (w : Vec T)
    (result : Result (Unit {0}) AllocError) : Type 0 where
  pub at_end : end ≡ v.raw.len
      → Takes item steps count iter old new (record v { raw = record v.raw { len = start } }) w result
  pub before_tail : end < v.raw.len → FillsThen item steps iter old new v Stays start end (end - start) w result
      (λ now between u. PutsMore item steps count now between new u end w result)
