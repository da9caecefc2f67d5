-- A range of a vector that an iterator's items are put into, and the steps of a splice.
use Rattle.std.proofs.Common.{◌≡◌, ℕ, ◌+◌, ◌-◌, ◌*◌, ◌<◌, ◌≤◌, List, [], ◌∷◌, ◌++◌, length, take, drop, refl, sym, ap, subst, ◌∙◌, arith, Bool, true, false, Option, Some, None, Result, Ok, Err, set, length-append, append_assoc, append-nil}
use Rattle.std.proofs.lemmas.Grind.{common_steps}
use Rattle.std.proofs.lemmas.List.{drop-take, take_all, take_at, drop_at, drop-drop, drop-set, drop-set-add, take-take, set-append_right}
use Rattle.std.proofs.Math.Nat.{add-mul, mul-le-mul_right}
use Rattle.std.proofs.Math.Seq.{take-add}
use Rattle.std.specs.List.{remove_range, replace_range}
use Rattle.std.specs.Iterator.{Count, Yields, Drains}
use Rattle.arena_chunks.specs.Memory.{Memory, image, bytes_from}
use Rattle.arena_chunks.specs.Source.{View}
use Rattle.arena_chunks.specs.Frame.{Frame, Stays as IsBeside}
use Rattle.arena_chunks.specs.BlockCalls.{WritesBlock}
use Rattle.arena_chunks.proofs.Layers.{frame_then, frame_reflexive, frame_weaken, empty_before, frame_keeps_new, length-bytes, take_bytes, wrote_part}
use Rattle.arena_items.specs.declared.item.Item.{Ghosts}
use Rattle.arena_items.specs.Values.{elements, bytes_of}
use Rattle.arena_items.proofs.Layers.{Yields-push, length-elements, written_held, elements-front, elements-over, same_then, wrote_same, room_then}
use Rattle.raw_vec.specs.Growth.{empty_capacity, amortised_growth}
use Rattle.raw_vec.specs.Held.{empty_block}
use Rattle.arena_items.specs.Room.{SamePlaces}
use Rattle.arena_items.specs.Rows.{over}
use Rattle.arena_vec.specs.Vecs.{IsVecIn, vec_list}
use Rattle.arena_vec.specs.Changes.{Becomes, Grows, IsNow}
use Rattle.arena_vec.specs.Extending.{TakesAll, TakesSome}
use Rattle.arena_vec.specs.Splicing.{Fills, Widens, FillsThen, PutsRest, new_vec}
use Rattle.arena_items.specs.declared.room.Growth.{Growth}
use Rattle.arena_items.specs.declared.room.Growth.TheVariants.{Stays}
use Rattle.arena_items.specs.declared.room.AllocError.{AllocError}
use Rattle.arena_vec.specs.declared.vec.Vec.{Vec}
use Rattle.arena_vec.proofs.VecLemmas.{becomes, room_of}
use Rattle.arena_vec.proofs.BulkLemmas.{now_cut}

-- ---- Lists

module _ {T : Type 0} (xs ys : List T) (at : ℕ) (within : at + length ys ≤ length xs) where
  front_long : length (take at xs ++ ys) ≡ at + length ys
  front_long = grind (arith, common_steps)

  -- one more value after those that were written over others
  over_more : (x : T) → at + length ys < length xs → set (over xs at ys) (at + length ys) x ≡ over xs at (ys ++ x ∷ [])
  over_more x more =
      let n = at + length ys in
      let none : n - n ≡ 0 = omega arith in
      let first : set (drop n xs) 0 x ≡ x ∷ drop (n + 1) xs = grind (arith, common_steps, drop-set-add n xs 0 x, drop-set xs n x more) in
      let last : at + length (ys ++ x ∷ []) ≡ n + 1 = omega (arith, length-append ys (x ∷ [])) in
      set-append_right (take at xs ++ ys) (drop n xs) n n x front_long (omega arith)
      ∙ rw (none, first, last, ← append_assoc (take at xs) ys (x ∷ []))
      (sym (append_assoc (take at xs ++ ys) (x ∷ []) (drop (n + 1) xs)))

  -- Values that were written over the first of a range, and the others of it removed.
  over_removed : (end : ℕ) → at + length ys ≤ end → remove_range (over xs at ys) (at + length ys) end ≡ replace_range xs at end ys
  over_removed end more =
      let n = at + length ys in
      let cut = drop_at (take at xs ++ ys) (drop n xs) n front_long in
      let behind : drop end (over xs at ys) ≡ drop end xs = grind (arith, common_steps, drop-drop (end - n) n (over xs at ys), cut) in
      rw (take_at (take at xs ++ ys) (drop n xs) n front_long, behind) refl

-- The values from an index on moved up by n, after the first values of a longer list.
pub widened : {T : Type 0} (xs front : List T) (len at n : ℕ) → take len xs ≡ front → length xs ≡ len + n → at ≤ len
    → over xs (at + n) (take (len - at) (drop at xs)) ≡ replace_range front at at (take n (drop at xs))
widened {T} xs front len at n e long within =
    let tail : List T = take (len - at) (drop at xs) in
    let none : drop (at + n + length tail) xs ≡ [] = grind (arith, common_steps) in
    let whole : at + (len - at) ≡ len = omega arith in
    let behind : drop at (take len xs) ≡ tail = rw whole at (drop-take at (len - at) xs) in
    rw (none, ← e, behind, take-take at len xs within, take-add at n xs, append-nil (take at xs ++ take n (drop at xs) ++ tail)) refl

-- nothing in the place of nothing
pub replaced_none : {T : Type 0} (xs : List T) (at : ℕ) → replace_range xs at at [] ≡ xs
replaced_none xs at = grind (arith, common_steps)

-- what was put at an index is replaced
pub replaced_again : {T : Type 0} (xs ys zs : List T) (at end : ℕ) → at ≤ length xs → end ≡ at + length ys
    → replace_range (replace_range xs at at ys) at end zs ≡ replace_range xs at at zs
replaced_again xs ys zs at end within e = grind (arith, common_steps)

-- the length of a vector with a range replaced
pub replaced_len : {T : Type 0} (item : Ghosts T) (m : Memory) (v w : Vec T) (start end : ℕ) (items : List T) → start ≤ v.raw.len
    → w.raw.len ≡ length (replace_range (vec_list item m v) start end items) → w.raw.len ≡ start + length items + (v.raw.len - end)
replaced_len item m v w start end items within len =
    grind (arith, common_steps, length-elements item.SIZE item.decoded v.raw.len (bytes_of m v.raw.block))

-- ---- Filling

-- An iterator's items were put in the places of a vector from `start` on, up to `at`.
pub record IsFilling {T I : Type 0} (item : Ghosts T) (steps : I → Option T → I → Type 0) (iter now : I) (old new : View) (v : Vec T)
    (start at : ℕ) : Type 0 where
  pub items : List T
  pub count : at ≡ start + length items
  pub yields : Yields steps iter items now
  pub held : IsVecIn item new.memory v
  pub list_is : vec_list item new.memory v ≡ over (vec_list item old.memory v) start items
  pub places : SamePlaces old new
  pub frame : Frame old.memory new.memory (v.raw.block ∷ []) (v.raw.block ∷ [])

module _ {T I : Type 0} {item : Ghosts T} {steps : I → Option T → I → Type 0} where
  -- none yet
  pub filling_none : {iter : I} {a : View} {v : Vec T} (start : ℕ) → IsVecIn item a.memory v
      → IsFilling item steps iter iter a a v start start
  filling_none {iter} {a} {v} start held = record {
    items = [];
    count = omega arith;
    yields = refl;
    held = held;
    list_is = grind (arith, common_steps);
    places = record { state = refl; statistics = refl; source = refl };
    frame = frame_reflexive a.memory (v.raw.block ∷ []);
  }

  -- one more
  pub filling_more : {iter now next : I} {old mid new : View} {v : Vec T} {start at : ℕ} {x : T} {list : List ℕ}
      → IsFilling item steps iter now old mid v start at → steps now (Some x) next → at < v.raw.len
      → WritesBlock mid.memory new.memory v.raw.block (at * item.SIZE) list → new.source ≡ mid.source
      → vec_list item new.memory v ≡ set (vec_list item mid.memory v) at x → IsFilling item steps iter next old new v start (at + 1)
  filling_more {iter} {now} {next} {old} {mid} {new} {v} {start} {at} {x} {list} f step below writes source put =
      let xs = vec_list item old.memory v in
      let long = length-elements item.SIZE item.decoded v.raw.len (bytes_of old.memory v.raw.block) in
      let within : start + length f.items < length xs = omega (arith, f.count) in
      record {
        items = f.items ++ x ∷ [];
        count = omega (arith, f.count, length-append f.items (x ∷ []));
        yields = Yields-push steps iter f.items now x next f.yields step;
        held = record {
          place = written_held mid.memory new.memory _ _ _ v.raw.block v.raw.block list writes f.held.place;
          within = f.held.within;
          no_bytes = f.held.no_bytes;
        };
        list_is = put ∙ ap (λ l. set l at x) f.list_is ∙ ap (λ k. set (over xs start f.items) k x) f.count
            ∙ over_more xs f.items start (omega arith) x within;
        places = same_then old mid new f.places (wrote_same mid new v.raw.block (at * item.SIZE) list writes source);
        frame = frame_then old.memory mid.memory new.memory _ _ _ f.frame writes.frame;
      }

  -- all places are filled
  pub filled_all : {iter now : I} {old mid : View} {v : Vec T} {start end : ℕ} → IsVecIn item old.memory v
      → IsFilling item steps iter now old mid v start end → Fills item steps iter now old mid v start end v true
  filled_all {iter} {now} {old} {mid} {v} {start} {end} held f = record {
    items = f.items;
    becomes = becomes item old mid v v.raw.len _ held held.within f.places f.frame
        (f.list_is ∙ ap (λ k. replace_range (vec_list item old.memory v) start k f.items) (sym f.count));
    yields = λ full. (omega (arith, f.count), f.yields);
    drains = λ isnt. absurd (let no : true ≡ false = isnt in cc);
  }

  -- The items ended, and the places that are left were removed.
  pub filled_some : {iter now last : I} {old mid new : View} {v w : Vec T} {start end at : ℕ} → end ≤ v.raw.len
      → IsFilling item steps iter now old mid v start at → at < end → steps now None last
      → Becomes item mid new v (remove_range (vec_list item mid.memory v) at end) w → Fills item steps iter last old new v start end w false
  filled_some {iter} {now} {last} {old} {mid} {new} {v} {w} {start} {end} {at} within f below step cut =
      let xs = vec_list item old.memory v in
      let long = length-elements item.SIZE item.decoded v.raw.len (bytes_of old.memory v.raw.block) in
      let list : remove_range (vec_list item mid.memory v) at end ≡ replace_range xs start end f.items =
      ap (λ l. remove_range l at end) f.list_is ∙ ap (λ k. remove_range (over xs start f.items) k end) f.count
      ∙ over_removed xs f.items start (omega (arith, f.count, long)) end (omega (arith, f.count)) in
      record {
        items = f.items;
        becomes = grind (
          arith,
          cut,
          list,
          same_then old mid new f.places cut.places,
          frame_then old.memory mid.memory new.memory _ _ _ f.frame cut.frame,
        );
        yields = λ is. absurd (let no : false ≡ true = is in cc);
        drains = λ short. (omega (arith, f.count), (last, (now, f.yields, step)));
      }

-- ---- Growth

module _ {T : Type 0} {item : Ghosts T} where
  -- Room was made, and then bytes were written.
  pub grows_then : {X : Type 0} {old mid new : View} {v u w : Vec T} {growth : Growth} {between list : List T} {x : X}
      → Grows {X = X} item old mid v growth between u (Ok x) → Becomes item mid new u list w
      → Grows {X = X} item old new v growth list w (Ok x)
  grows_then {X} {old} {mid} {new} {v} {u} {w} {growth} {between} {list} {x} grows becomes = grind (
    arith,
    room_then item.SIZE item.ALIGN old mid new v.raw.block v.raw.cap growth (λ (y : X). u.raw.block) (λ (y : X). w.raw.block) x x
        becomes.block grows.made becomes.places,
    becomes,
    frame_then old.memory mid.memory new.memory _ _ _ grows.frame becomes.frame,
  )

  -- What takes no memory is no growth.
  pub grows_nothing : {old new : View} {v w : Vec T} {list : List T} → Becomes item old new v list w
      → Grows {X = Unit {0}} item old new v Stays list w (Ok tt)
  grows_nothing becomes = grind (arith, becomes)

  -- Items were put in the places that were made.
  pub widen_filled : {I : Type 0} {steps : I → Option T → I → Type 0} {iter now : I} {old mid new : View} {v u w : Vec T} {at n : ℕ}
      {full : Bool} → at ≤ v.raw.len → Widens item old mid v at n u (Ok tt)
      → (fills : Fills item steps iter now mid new u at (at + n) w full)
      → Grows {X = Unit {0}} item old new v (amortised_growth item.SIZE v.raw.cap (v.raw.len + n))
      (replace_range (vec_list item old.memory v) at at fills.items) w (Ok tt)
  widen_filled {I} {steps} {iter} {now} {old} {mid} {new} {v} {u} {w} {at} {n} {full} within wide fills =
      let long = length-elements item.SIZE item.decoded v.raw.len (bytes_of old.memory v.raw.block) in
      grows_then wide.grows
      (subst (λ l. Becomes item mid new u l w) (ap (λ l. replace_range l at (at + n) fills.items) wide.grows.list_is
      ∙ replaced_again (vec_list item old.memory v) wide.values fills.items at (at + n) (omega (arith, long, within))
      (omega (arith, wide.many))) fills.becomes)

  -- The values of another vector were copied there.
  pub inserted_all : {old mid new : View} {v w other : Vec T} {at : ℕ} → at ≤ v.raw.len → IsVecIn item old.memory other
      → Widens item old mid v at other.raw.len w (Ok tt) → IsBeside old.memory mid.memory (w.raw.block ∷ []) other.raw.block
      → WritesBlock mid.memory new.memory w.raw.block (at * item.SIZE)
      (bytes_from (image mid.memory) (other.raw.block.addr + 0 * item.SIZE) (other.raw.len * item.SIZE)) → new.source ≡ mid.source
      → Grows {X = Unit {0}} item old new v (amortised_growth item.SIZE v.raw.cap (v.raw.len + other.raw.len))
      (replace_range (vec_list item old.memory v) at at (vec_list item old.memory other)) w (Ok tt)
  inserted_all {old} {mid} {new} {v} {w} {other} {at} within held wide beside writes source =
      let size = item.SIZE in
      let n = other.raw.len in
      let xs = vec_list item old.memory v in
      let zs = vec_list item old.memory other in
      let bytes = bytes_from (image mid.memory) (other.raw.block.addr + 0 * size) (n * size) in
      let sized = length-bytes (image mid.memory) (other.raw.block.addr + 0 * size) (n * size) in
      let long = length-elements size item.decoded n (bytes_of old.memory other.raw.block) in
      let all = length-elements size item.decoded v.raw.len (bytes_of old.memory v.raw.block) in
      let len = replaced_len item old.memory v w at at wide.values within wide.grows.len in
      let room = room_of item mid.memory w w.raw.len wide.grows.held wide.grows.held.within in
      let there : at + n ≤ w.raw.len = omega (arith, len, wide.many, within) in
      let fits : at * size + length bytes ≤ w.raw.block.size = omega (arith, sized, add-mul at n size, mul-le-mul_right size there, room) in
      let source_fits : n * size ≤ other.raw.block.size = room_of item old.memory other n held held.within in
      let none : other.raw.block.addr + 0 * size ≡ other.raw.block.addr = omega arith in
      let same : elements size item.decoded n bytes ≡ zs =
      ap (λ p. elements size item.decoded n (bytes_from (image mid.memory) p (n * size))) none
      ∙ ap (elements size item.decoded n) (sym
      (take_bytes (image mid.memory) other.raw.block.addr other.raw.block.size (n * size) source_fits))
      ∙ elements-front size item.decoded n (bytes_of mid.memory other.raw.block) ∙ ap (elements size item.decoded n) beside.bytes in
      grows_then wide.grows (becomes item _ _ w w.raw.len (replace_range xs at at zs) wide.grows.held wide.grows.held.within
      (wrote_same mid new _ _ _ writes source) writes.frame (ap (elements size item.decoded w.raw.len) (wrote_part _ _ _ _ _ writes fits) ∙
      elements-over size item.decoded at n w.raw.len (bytes_of mid.memory w.raw.block) bytes sized there
      (omega (arith, room, length-bytes (image mid.memory) w.raw.block.addr w.raw.block.size)) ∙ ap (over (vec_list item mid.memory w) at)
      same ∙ ap (λ l. over l at zs) wide.grows.list_is ∙ replaced_again xs wide.values zs at (at + length zs) (omega (arith, all, within))
      (omega (arith, long, wide.many))))

-- ---- Places that are filled

module _ {T I : Type 0} {item : Ghosts T} {steps : I → Option T → I → Type 0} {iter : I} {old mid : View} {v u : Vec T} {growth : Growth}
    {start end places : ℕ} {follows : I → View → Vec T → Type 0} (now : I) (items : List T)
    (grows : Grows {X = Unit {0}} item old mid v growth (replace_range (vec_list item old.memory v) start end items) u (Ok tt)) where
  -- The items ended there.
  pub fills_end : length items < places → Drains steps iter items
      → FillsThen item steps iter old mid v growth start end places u (Ok tt) follows
  fills_end fewer drains = record {
    room = Ok tt;
    items = items;
    now = now;
    between = mid;
    filled = u;
    grows = grows;
    refused = tt;
    ended = λ short. (drains, record { answer = refl; view = refl; vec = refl });
    full = λ more. absurd (omega arith);
  }

  -- The places are full.
  pub fills_on : {new : View} {w : Vec T} {result : Result (Unit {0}) AllocError} → length items ≡ places → Yields steps iter items now
      → follows now mid u → FillsThen item steps iter old new v growth start end places w result follows
  fills_on all yields then = record {
    room = Ok tt;
    items = items;
    now = now;
    between = mid;
    filled = u;
    grows = grows;
    refused = tt;
    ended = λ short. absurd (omega arith);
    full = λ more. (all, yields, then);
  }

-- ---- Items that are gathered

-- the vector with no storage
pub is_new : {T : Type 0} (item : Ghosts T) (v : Vec T) → v.raw.block ≡ empty_block item.ALIGN → v.raw.len ≡ 0
    → v.raw.cap ≡ empty_capacity item.SIZE → v ≡ new_vec item
is_new item v block len cap = λ i. record { raw = record { block = block i; len = len i; cap = cap i; of = v.raw.of } }

module _ {T I : Type 0} (item : Ghosts T) (steps : I → Option T → I → Type 0) (count : I → Count) (iter : I) (old mid : View)
    (v rest : Vec T) (at : ℕ) (held : IsVecIn item old.memory v)
    (frame : Frame old.memory mid.memory (empty_block item.ALIGN ∷ []) (rest.raw.block ∷ [])) where
  alone : Frame old.memory mid.memory [] (rest.raw.block ∷ [])
  alone = (empty_before old.memory mid.memory [] [] (rest.raw.block ∷ []) (empty_block item.ALIGN) refl).0 frame

  -- Another vector stays as it was meanwhile.
  kept : IsNow item mid.memory v (vec_list item old.memory v) v
  kept =
      let long = length-elements item.SIZE item.decoded v.raw.len (bytes_of old.memory v.raw.block) in
      subst (λ l. IsNow item mid.memory v l v) (take_all v.raw.len (vec_list item old.memory v) (omega (arith, long)))
      (now_cut item _ _ _ v v.raw.len held (frame_keeps_new _ _ _ v.raw.block alone held.place.readable) (omega arith))

  beside : Frame old.memory mid.memory (v.raw.block ∷ []) (v.raw.block ∷ [])
  beside = frame_weaken _ _ _ _ _ _ (λ addr n some apart. tt) (λ addr n some apart others. apart) alone

  -- There was no room to gather all.
  pub gather_refused : {e : AllocError} → TakesSome item steps count iter old mid (new_vec item) rest e
      → PutsRest item steps count iter old mid v at v (Err e)
  gather_refused {e} takes = record {
    gathered = Err e;
    between = mid;
    rest = rest;
    gathers = takes;
    kept = kept;
    beside = beside;
    refused = record { answer = refl; view = refl; vec = refl };
    puts = tt;
  }

  -- All were gathered, and then they were put.
  pub gathered_put : {new : View} {w : Vec T} {result : Result (Unit {0}) AllocError}
      → TakesAll item steps count iter old mid (new_vec item) rest
      → Grows item mid new v (amortised_growth item.SIZE v.raw.cap (v.raw.len + rest.raw.len))
      (replace_range (vec_list item mid.memory v) at at (vec_list item mid.memory rest)) w result
      → PutsRest item steps count iter old new v at w result
  gathered_put takes grows = record {
    gathered = Ok tt;
    between = mid;
    rest = rest;
    gathers = takes;
    kept = kept;
    beside = beside;
    refused = tt;
    puts = rw kept.list_is at grows;
  }
