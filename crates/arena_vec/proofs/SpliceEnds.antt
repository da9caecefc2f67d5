-- What is in a range's place after the steps of a splice.
use Rattle.std.proofs.Common.{◌≡◌, ℕ, ◌+◌, ◌-◌, ◌<◌, ◌≤◌, List, [], ◌∷◌, ◌++◌, length, refl, sym, ap, ◌∙◌, arith, Option, Result, Ok, Err, ◌⊎◌, inl, inr, append_assoc}
use Rattle.std.proofs.lemmas.Grind.{common_steps}
use Rattle.std.proofs.lemmas.Bool.{cases_Bool, cases_lt}
use Rattle.std.proofs.lemmas.Result.{on_ok_weaker, on_err_weaker}
use Rattle.std.specs.Prelude.{OnOk, OnErr}
use Rattle.std.specs.List.{replace_range}
use Rattle.std.specs.Iterator.{Count, Yields, Drains}
use Rattle.arena_chunks.specs.Memory.{Memory}
use Rattle.arena_chunks.specs.Source.{View}
use Rattle.arena_chunks.specs.Frame.{Frame}
use Rattle.arena_chunks.proofs.Layers.{frame_then}
use Rattle.arena_items.specs.declared.item.Item.{Ghosts}
use Rattle.arena_items.specs.Values.{bytes_of}
use Rattle.arena_items.proofs.Layers.{Yields-push, length-elements, elements-empty, elements-cut}
use Rattle.arena_vec.specs.Vecs.{IsVecIn, vec_list}
use Rattle.arena_vec.specs.Changes.{Grows}
use Rattle.arena_vec.specs.Extending.{Extends, TakesAll, TakesSome}
use Rattle.arena_vec.specs.Splicing.{Replaces, FillsThen, PutsRest, PutsMore, Splices, new_vec, is_useful}
use Rattle.arena_items.specs.declared.room.Growth.{Growth}
use Rattle.arena_items.specs.declared.room.Growth.TheVariants.{Stays}
use Rattle.arena_items.specs.declared.room.AllocError.{AllocError}
use Rattle.arena_vec.specs.declared.vec.Vec.{Vec}
use Rattle.arena_vec.proofs.SpliceLemmas.{replaced_len}

-- a result is one or the other
ok_or_err : (r : Result (Unit {0}) AllocError) → (r ≡ Ok tt) ⊎ ((e : AllocError) × (r ≡ Err e))
ok_or_err (Ok x) = inl refl
ok_or_err (Err e) = inr (e, refl)

-- ---- Lists and items

-- more is put after what is in a range's place
replaced_more : {T : Type 0} (xs ys zs : List T) (start end at : ℕ) → start ≤ length xs → at ≡ start + length ys
    → replace_range (replace_range xs start end ys) at at zs ≡ replace_range xs start end (ys ++ zs)
replaced_more xs ys zs start end at within e = grind (arith, common_steps)

-- items one after another
Yields-append : {S A : Type 0} (steps : S → Option A → S → Type 0) (s t u : S) (xs ys : List A) → Yields steps s xs t
    → Yields steps t ys u → Yields steps s (xs ++ ys) u
Yields-append steps s t u [] ys first second = rw first second
Yields-append steps s t u (x ∷ xs) ys first second = (first.0, first.1, Yields-append steps first.0 t u xs ys first.2 second)

module _ {T I : Type 0} (item : Ghosts T) (steps : I → Option T → I → Type 0) (count : I → Count) where
  -- Items that were appended are those that the iterator gave.
  Extends-yields : (iter now : I) (old new : View) (v w : Vec T) (xs : List T) → Extends item steps count iter old v xs now new w
      → Yields steps iter xs now
  Extends-yields iter now old new v w [] run = sym run.0
  Extends-yields iter now old new v w (x ∷ xs) run = (run.0, run.3, Extends-yields run.0 now run.1 new run.2 w xs run.5)

  -- all that were taken before a refusal, with the last
  taken : {iter : I} {old new : View} {v w : Vec T} {e : AllocError} (takes : TakesSome item steps count iter old new v w e)
      → Yields steps iter (takes.items ++ takes.last ∷ []) takes.rest
  taken {iter} {old} {v = v} {w} takes = Yields-push steps iter takes.items takes.now takes.last takes.rest
      (Extends-yields iter takes.now old takes.between v w takes.items takes.extends) takes.step

module _ {T I : Type 0} {item : Ghosts T} {steps : I → Option T → I → Type 0} {iter : I} {old : Memory} {v w : Vec T} {start end : ℕ} where
  -- These items are there.
  replaces : {new : Memory} {result : Result (Unit {0}) AllocError} (items : List T) → IsVecIn item new w
      → vec_list item new w ≡ replace_range (vec_list item old v) start end items → OnOk result (Drains steps iter items)
      → OnErr result ((lost : List T) × (now : I) × Yields steps iter (items ++ lost) now)
      → Frame old new (v.raw.block ∷ []) (w.raw.block ∷ []) → Replaces item steps iter old new v start end w result
  replaces {new} items held list all some frame = record {
    items = items;
    held = held;
    list_is = list;
    len = sym (length-elements item.SIZE item.decoded w.raw.len (bytes_of new w.raw.block)) ∙ ap length list;
    all = all;
    some = some;
    frame = frame;
  }

  -- Nothing was put there, and these items are lost.
  replaces_none : {new : Memory} {e : AllocError} (lost : List T) (now : I) → end ≡ start → IsVecIn item new w
      → vec_list item new w ≡ vec_list item old v → Yields steps iter lost now → Frame old new (v.raw.block ∷ []) (w.raw.block ∷ [])
      → Replaces item steps iter old new v start end w (Err e)
  replaces_none lost now none held same yields frame = replaces [] held (grind (arith, common_steps)) tt (lost, now, yields) frame

  -- What is put after the items that are there is there too.
  replaces_then : {now : I} {mid new : Memory} {u : Vec T} {at : ℕ} {result : Result (Unit {0}) AllocError} (items : List T)
      → start ≤ v.raw.len → at ≡ start + length items → Yields steps iter items now
      → vec_list item mid u ≡ replace_range (vec_list item old v) start end items → Frame old mid (v.raw.block ∷ []) (u.raw.block ∷ [])
      → Replaces item steps now mid new u at at w result → Replaces item steps iter old new v start end w result
  replaces_then {now} {mid} {new} {at = at} {result} items within e yields list frame rest =
      let long = length-elements item.SIZE item.decoded v.raw.len (bytes_of old v.raw.block) in
      replaces (items ++ rest.items) rest.held
      (rest.list_is ∙ ap (λ l. replace_range l at at rest.items) list
      ∙ replaced_more (vec_list item old v) items rest.items start end at (omega (arith, long, within)) e)
      (on_ok_weaker result (λ (d : Drains steps now rest.items).
      (d.0, (d.1.0, Yields-append steps iter now d.1.0 items rest.items yields d.1.1, d.1.2))) rest.all)
      (on_err_weaker result (λ (s : (lost : List T) × (t : I) × Yields steps now (rest.items ++ lost) t).
      (s.0, s.1, rw (append_assoc items rest.items s.0) (Yields-append steps iter now s.1 items (rest.items ++ s.0) yields s.2))) rest.some)
      (frame_then old mid new _ _ _ frame rest.frame)

module _ {T I : Type 0} {item : Ghosts T} {steps : I → Option T → I → Type 0} {iter : I} {old new : View} {v w : Vec T}
    {result : Result (Unit {0}) AllocError} where
  -- The items that are left are at their index.
  rest_replaces : {count : I → Count} {at : ℕ} → PutsRest item steps count iter old new v at w result
      → Replaces item steps iter old.memory new.memory v at at w result
  rest_replaces {count} {at} p = elim (ok_or_err p.gathered) [
    | inr (e, is) ↦
        let done = rw is at p.refused in
        let takes = rw is at p.gathers in
        rw (done.answer, done.view, done.vec) (replaces_none (takes.items ++ takes.last ∷ []) takes.rest refl p.kept.held p.kept.list_is
        (taken item steps count takes) p.beside)
    | inl all ↦
        let takes = rw all at p.gathers in
        let grows = rw all at p.puts in
        let frame = frame_then old.memory p.between.memory new.memory _ _ _ p.beside grows.frame in
        elim (ok_or_err result) [
          | inr (e, is) ↦
              let err = rw is at grows.err in
              rw is (replaces_none takes.items takes.drains.1.0 refl grows.held
              (ap (vec_list item new.memory) err.0 ∙ ap (λ m. vec_list item m v) err.1 ∙ p.kept.list_is) takes.drains.1.1 frame)
          | inl is ↦
              let none = elements-empty item.SIZE item.decoded 0 (bytes_of old.memory (new_vec item).raw.block) refl in
              rw is (replaces takes.items grows.held ((rw is at grows.list_is)
              ∙ ap (replace_range (vec_list item old.memory v) at at) (takes.list_is ∙ ap (λ l. l ++ takes.items) none)) takes.drains tt
              frame)
        ]
  ]

  -- Items are in the places that were filled, and what followed after them.
  fills_replaces : {growth : Growth} {start end places : ℕ} {follows : I → View → Vec T → Type 0} (at : ℕ) → start ≤ v.raw.len
      → at ≡ start + places
      → ((e : AllocError) (mid : View) (u : Vec T) (list : List T) → Grows {X = Unit {0}} item old mid v growth list u (Err e)
      → end ≡ start)
      → ((now : I) (mid : View) (u : Vec T) → at ≤ u.raw.len → follows now mid u
      → Replaces item steps now mid.memory new.memory u at at w result)
      → FillsThen item steps iter old new v growth start end places w result follows
      → Replaces item steps iter old.memory new.memory v start end w result
  fills_replaces {start = start} {end} {places} at within e none on f = elim (ok_or_err f.room) [
    | inr (e, is) ↦
        let grows = rw is at f.grows in
        let done = rw is at f.refused in
        rw (done.answer, done.view, done.vec) (replaces_none [] iter (none e f.between f.filled _ grows) grows.held
        (ap (vec_list item f.between.memory) grows.err.0 ∙ ap (λ m. vec_list item m v) grows.err.1) refl grows.frame)
    | inl is ↦
        let grows = rw is at f.grows in
        let len = replaced_len item old.memory v f.filled start end f.items within grows.len in
        elim (cases_lt (length f.items) places) [
          | inl short ↦
              let ended = (rw is at f.ended) short in
              rw (ended.1.answer, ended.1.view, ended.1.vec) (replaces f.items grows.held grows.list_is ended.0 tt grows.frame)
          | inr more ↦
              let all = (rw is at f.full) more in
              replaces_then f.items within (omega (arith, e, all.0)) all.1 grows.list_is grows.frame
              (on f.now f.between f.filled (omega (arith, e, all.0, len)) all.2)
        ]
  ]

-- Items are at their index, with a hint or with none.
more_replaces : {T I : Type 0} {item : Ghosts T} {steps : I → Option T → I → Type 0} {count : I → Count} {iter : I} {old new : View}
    {v w : Vec T} {at : ℕ} {result : Result (Unit {0}) AllocError} → at ≤ v.raw.len → PutsMore item steps count iter old new v at w result
    → Replaces item steps iter old.memory new.memory v at at w result
more_replaces {item = item} {v = v} {at = at} within p = elim (cases_Bool (is_useful item.SIZE v.raw.len p.hint)) [
  | inl is ↦
      fills_replaces (at + p.hint) within refl (λ e mid u list grows. refl) (λ now mid u more rest. rest_replaces rest) (p.hinted is)
  | inr isnt ↦ rest_replaces (p.unhinted isnt)
]

-- ---- The ends

-- Items at the end are in the place of the last values.
at_end : {T : Type 0} (item : Ghosts T) (m : Memory) (v : Vec T) (start end : ℕ) (items : List T) → start ≤ end → end ≡ v.raw.len
    → vec_list item m (record v { raw = record v.raw { len = start } }) ++ items ≡ replace_range (vec_list item m v) start end items
at_end item m v start end items order all =
    let bytes = bytes_of m v.raw.block in
    grind (
      arith,
      common_steps,
      elements-cut item.SIZE item.decoded start v.raw.len bytes (omega arith),
      length-elements item.SIZE item.decoded v.raw.len bytes,
    )

module _ {T I : Type 0} {item : Ghosts T} {steps : I → Option T → I → Type 0} {count : I → Count} {iter : I} {old new : View} {v w : Vec T}
    {start end : ℕ} where
  -- Items are in a range before a tail.
  pub spliced : {result : Result (Unit {0}) AllocError} → start ≤ end → end < v.raw.len
      → FillsThen item steps iter old new v Stays start end (end - start) w result
      (λ now between u. PutsMore item steps count now between new u end w result)
      → record {
        replaces : Replaces item steps iter old.memory new.memory v start end w result;
        splices : Splices item steps count iter old new v start end w result;
      }
  spliced {result} order tail fills = record {
    replaces = fills_replaces end (omega arith) (omega arith) (λ e mid u list grows. absurd grows.made.0)
        (λ now mid u more rest. more_replaces more rest) fills;
    splices = record { at_end = λ all. absurd (omega arith); before_tail = λ tail. fills };
  }

  -- All items are at the end.
  pub extends_all : start ≤ end → end ≡ v.raw.len → IsVecIn item new.memory w
      → Frame old.memory new.memory (v.raw.block ∷ []) (w.raw.block ∷ [])
      → TakesAll item steps count iter old new (record v { raw = record v.raw { len = start } }) w
      → Replaces item steps iter old.memory new.memory v start end w (Ok tt)
  extends_all order all held frame takes =
      replaces takes.items held (takes.list_is ∙ at_end item old.memory v start end takes.items order all) takes.drains tt frame

  -- Those before a refusal are.
  pub extends_some : {e : AllocError} → start ≤ end → end ≡ v.raw.len → IsVecIn item new.memory w
      → Frame old.memory new.memory (v.raw.block ∷ []) (w.raw.block ∷ [])
      → TakesSome item steps count iter old new (record v { raw = record v.raw { len = start } }) w e
      → Replaces item steps iter old.memory new.memory v start end w (Err e)
  extends_some {e} order all held frame takes =
      replaces takes.items held (takes.list_is ∙ at_end item old.memory v start end takes.items order all) tt
      (takes.last ∷ [], takes.rest, taken item steps count takes) frame
