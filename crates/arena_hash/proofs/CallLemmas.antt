-- What calls on one key and on whole maps do, put together.
use Rattle.std.proofs.Common.{◌≡◌, ℕ, ◌+◌, ◌^◌, ◌<◌, ◌≤◌, List, [], ◌∷◌, set, refl, sym, ap, subst, ◌∙◌, arith, Some, None, Option, Ok, Err, true, false, Bool}
use Rattle.std.proofs.Math.Path.{fun_ext}
use Rattle.std.proofs.lemmas.Bool.{cases_Bool, cond-true, cond-false}
use Rattle.std.proofs.lemmas.Bool.Decides.{nat_tests}
use Rattle.std.proofs.lemmas.Slice.Eq.{bytes_eq-Decides}
use Rattle.std.specs.Prelude.{slice_get, nat_lt, is_some, if◌then◌else◌, ◌==◌}
use Rattle.arena_chunks.specs.Memory.{Memory}
use Rattle.arena_chunks.specs.Source.{View}
use Rattle.arena_chunks.specs.Frame.{Frame}
use Rattle.arena_store.specs.declared.block.Block.{Block}
use Rattle.arena_chunks.proofs.Layers.{frame_reflexive, frame_then, frame_weaken}
use Rattle.arena_items.specs.Layout.{IsItemLayout}
use Rattle.arena_items.specs.Room.{MakesRoom, SamePlaces, capacity_after}
use Rattle.arena_items.specs.declared.room.AllocError.{AllocError}
use Rattle.arena_items.proofs.Layers.{room_then, room_refused}
use Rattle.arena_items.specs.declared.room.Growth.{Growth}
use Rattle.arena_items.specs.declared.room.Growth.TheVariants.{Stays, GrowsTo, Overflows}
use Rattle.hash_ring.specs.Finite.{Finite, has, with_pair, without}
use Rattle.hash_ring.specs.Policy.{limit, most_pairs, next_slots, slot_size, table_align}
use Rattle.hash_ring.specs.Slots.{Lacks, Settled, Closed, Moved}
use Rattle.hash_ring.proofs.PolicyLemmas.{next-room}
use Rattle.arena_table.specs.Contents.{Kind, content_in}
use Rattle.arena_table.specs.Tables.{slots_in, IsTableIn, IsTextBeside}
use Rattle.arena_table.specs.declared.table.Table.{Table}
use Rattle.arena_hash.specs.Changes.{Puts, TakesOut}
use Rattle.arena_hash.specs.Maps.{IsMapIn, map_in}
use Rattle.arena_hash.specs.Policy.{growth_for}
use Rattle.arena_hash.specs.declared.map.HashMap.{HashMap}
use Rattle.arena_hash.proofs.AccountLemmas.{free-costs, insert-costs}
use Rattle.arena_hash.proofs.MapLemmas.{moved-none, found-under, open-under, put-held, put-is, change-held, change-is, close-held, close-is}

-- what a put does if there is room, and if there isn't
pub growth-room : (slots len : ℕ) → len < limit slots → growth_for false slots len ≡ Stays
growth-room slots len room = let less : nat_lt len (limit slots) ≡ true = grind (arith, nat_tests) in rw less refl

pub growth-full : (slots len : ℕ) → limit slots ≤ len
    → growth_for false slots len ≡ (if len == most_pairs then Overflows else GrowsTo (next_slots slots))
growth-full slots len full = let less : nat_lt len (limit slots) ≡ false = grind (arith, nat_tests) in rw less refl

-- A table was placed only for fewer pairs than the most.
few-placed : {X : Type 0} (size align : ℕ) (old new : View) (block : Block) (len more : ℕ) (f : X → Block) (x : X) → len ≤ most_pairs
    → MakesRoom size align old new block 0 (if len == most_pairs then Overflows else GrowsTo more) f (Ok x) → len < most_pairs
few-placed size align old new block len more f x most made = go (len == most_pairs) refl made
  where
    go : (is : Bool) → (len == most_pairs) ≡ is → MakesRoom size align old new block 0 (if is then Overflows else GrowsTo more) f (Ok x)
        → len < most_pairs
    go true is made = absurd (let no = made.0 in cc)
    go false is made = grind (arith, nat_tests, is, most)

-- a map without a content that it doesn't have
pub without-none : {K V : Type 0} (f : Finite K V) (q : List ℕ) → f q ≡ None → f ≡ without f q
without-none f q none = grind (arith, nat_tests, fun_ext, cases_Bool, bytes_eq-Decides, cond-true, cond-false)

module _ {K V S : Type 0} (k : Kind K V S) (keys : IsItemLayout k.keys.SIZE k.keys.ALIGN)
    (values : IsItemLayout k.values.SIZE k.values.ALIGN)
    (keys_small : k.keys.SIZE ≤ 2 ^ 24) (values_small : k.values.SIZE ≤ 2 ^ 24) where
  abbrev slots : Memory → HashMap K V S → List (Option (K × V))
  slots memory m = slots_in k.keys k.values memory m.table

  abbrev size : ℕ
  size = slot_size k.keys.SIZE k.values.SIZE

  abbrev align : ℕ
  align = table_align k.keys.ALIGN k.values.ALIGN

  -- ---- A key that is there

  module _ (old new : View) (m : HashMap K V S) (held : IsMapIn k old.memory m) (key : K) (at : ℕ) (p : K × V)
      (there : slice_get (slots old.memory m) at ≡ Some (Some p)) (same : content_in k.key old.memory p.0 ≡ content_in k.key old.memory key)
      (places : SamePlaces old new) (frame : Frame old.memory new.memory (m.table.block ∷ []) (m.table.block ∷ [])) where
    under : map_in k old.memory m (content_in k.key old.memory key) ≡ Some p
    under = found-under k old.memory m at p _ held there same

    is_there : has (map_in k old.memory m) (content_in k.key old.memory key) ≡ true
    is_there = ap is_some under

    -- has another value then,
    pub puts-there : {X : Type 0} (value : V) (tells : Option V → X → Type 0) (x : X) → IsTableIn k new.memory m.hasher m.table
        → slots new.memory m ≡ set (slots old.memory m) at (Some (p.0, value)) → tells (Some p.1) x
        → Puts k old new m key value tells m (Ok x)
    puts-there {X} value tells x table changed told =
        let made : MakesRoom {X = X} size align old new m.table.block 0 (growth_for true m.table.slots m.len) (λ _. m.table.block)
        (Ok x) = (refl, places) in
        record {
          made = rw is_there made;
          held = change-held k old.memory new.memory m m held frame table at p there value changed refl held.within;
          map_is =
              change-is k old.memory new.memory m m held frame table at p there value changed key
              ∙ ap (λ q. with_pair (map_in k old.memory m) q key value) same;
          says = rw under told;
          len = rw is_there refl;
          err = tt;
          costs = rw is_there (insert-costs k keys values keys_small values_small old new m m held.handle.ring held.within true (Ok x) made
              (record { slots = refl; len = refl; err = tt }));
          hasher = refl;
          frame = frame;
        }

    -- or is removed.
    pub takes-out : {X : Type 0} (w : HashMap K V S) (tells : Option V → X → Type 0) (x : X) → w.table ≡ m.table → w.hasher ≡ m.hasher
        → w.len + 1 ≡ m.len
        → IsTableIn k new.memory w.hasher w.table → Closed (slots old.memory m) (slots new.memory w) at → tells (Some p.1) x
        → TakesOut k old new m key tells w x
    takes-out w tells x same_table same_hasher len table closed told =
        let framed : Frame old.memory new.memory (m.table.block ∷ []) (w.table.block ∷ []) = rw same_table frame in
        let within : w.len ≤ limit w.table.slots = rw same_table (omega (arith, held.within, len)) in
        record {
          becomes = record {
            held = close-held k old.memory new.memory m w held framed table at p there closed len within;
            map_is =
                close-is k old.memory new.memory m w held framed table at p there closed
                ∙ ap (λ q. without (map_in k old.memory m) q) same;
            table = same_table;
            hasher = same_hasher;
            places = places;
            costs = free-costs k keys values keys_small values_small old new m w places (ap (λ t. t.slots) same_table) (omega (arith, len));
            frame = frame;
          };
          says = rw under told;
          len = rw is_there (omega (arith, len));
        }

  -- ---- A key that isn't there

  module _ (old : View) (m : HashMap K V S) (held : IsMapIn k old.memory m) (key : K)
      (lacks : Lacks (λ p. content_in k.key old.memory p.0) (slots old.memory m) (content_in k.key old.memory key)) where
    nothing : map_in k old.memory m (content_in k.key old.memory key) ≡ None
    nothing = open-under k old.memory m _ lacks

    is_new : has (map_in k old.memory m) (content_in k.key old.memory key) ≡ false
    is_new = ap is_some nothing

    -- is put,
    pub puts-new : {X : Type 0} (new : View) (w : HashMap K V S) (value : V) (tells : Option V → X
        → Type 0) (x : X) (mid : List (Option (K × V)))
        → IsTextBeside k.key old.memory m.table.block key
        → Frame old.memory new.memory (m.table.block ∷ []) (w.table.block ∷ []) → IsTableIn k new.memory w.hasher w.table
        → Moved (slots old.memory m) mid → Settled mid (slots new.memory w) (key, value)
        → w.hasher ≡ m.hasher → w.len ≡ m.len + 1 → w.len ≤ limit w.table.slots
        → w.table.slots ≡ capacity_after (growth_for false m.table.slots m.len) m.table.slots
        → MakesRoom size align old new m.table.block 0 (growth_for false m.table.slots m.len) (λ _. w.table.block) (Ok x)
        → tells None x → Puts k old new m key value tells w (Ok x)
    puts-new new w value tells x mid beside frame table moved settled hasher len within after made told = record {
      made = rw is_new made;
      held = put-held k old.memory new.memory m w held frame table key value beside lacks mid moved settled len within;
      map_is = put-is k old.memory new.memory m w held frame table key value beside lacks mid moved settled;
      says = rw nothing told;
      len = rw is_new len;
      err = tt;
      costs = rw is_new (insert-costs k keys values keys_small values_small old new m w held.handle.ring held.within false (Ok x) made
          (record { slots = after; len = len; err = tt }));
      hasher = hasher;
      frame = frame;
    }

    -- if there is room in the table,
    pub puts-room : {X : Type 0} (new : View) (w : HashMap K V S) (value : V) (tells : Option V → X → Type 0) (x : X)
        → IsTextBeside k.key old.memory m.table.block key → m.len < limit m.table.slots → w.table ≡ m.table → w.hasher ≡ m.hasher
        → w.len ≡ m.len + 1 → SamePlaces old new → Frame old.memory new.memory (m.table.block ∷ []) (m.table.block ∷ [])
        → IsTableIn k new.memory m.hasher m.table → Settled (slots old.memory m) (slots_in k.keys k.values new.memory m.table) (key, value)
        → tells None x → Puts k old new m key value tells w (Ok x)
    puts-room {X} new w value tells x beside room same_table same_hasher len places frame table settled told =
        let framed : Frame old.memory new.memory (m.table.block ∷ []) (w.table.block ∷ []) = rw same_table frame in
        let tabled : IsTableIn k new.memory w.hasher w.table = rw (same_table, same_hasher) table in
        let put : Settled (slots old.memory m) (slots new.memory w) (key, value) = rw same_table settled in
        let made : MakesRoom {X = X} size align old new m.table.block 0 Stays (λ _. w.table.block) (Ok x) =
        (ap (λ t. t.block) same_table, places) in
        puts-new _ _ _ _ x _ beside framed tabled (moved-none (slots old.memory m)) put same_hasher len
        (rw (same_table, len) (omega (arith, room))) (subst (λ gr. w.table.slots ≡ capacity_after gr m.table.slots)
        (sym (growth-room m.table.slots m.len room)) (ap (λ t. t.slots) same_table))
        (subst (λ gr. MakesRoom {X = X} size align old new m.table.block 0 gr (λ _. w.table.block) (Ok x))
        (sym (growth-room m.table.slots m.len room)) made) told

    -- and if the next one was placed.
    pub puts-grown : {X : Type 0} (mid new : View) (t : Table K V) (w : HashMap K V S) (value : V) (tells : Option V → X → Type 0) (x : X)
        → IsTextBeside k.key old.memory m.table.block key → limit m.table.slots ≤ m.len → w.table ≡ t → w.hasher ≡ m.hasher
        → w.len ≡ m.len + 1
        → MakesRoom {X = Table K V} size align old mid m.table.block 0
        (if m.len == most_pairs then Overflows else GrowsTo (next_slots m.table.slots))
        (λ t. t.block) (Ok t)
        → t.slots ≡ next_slots m.table.slots → Moved (slots old.memory m) (slots_in k.keys k.values mid.memory t)
        → Frame old.memory mid.memory [] (t.block ∷ []) → SamePlaces mid new → Frame mid.memory new.memory (t.block ∷ []) (t.block ∷ [])
        → IsTableIn k new.memory m.hasher t
        → Settled (slots_in k.keys k.values mid.memory t) (slots_in k.keys k.values new.memory t) (key, value)
        → tells None x → Puts k old new m key value tells w (Ok x)
    puts-grown {X} mid new t w value tells x beside full same_table same_hasher len made grows moved placed places frame table settled
        told =
        let framed : Frame old.memory new.memory (m.table.block ∷ []) (w.table.block ∷ []) =
        rw same_table (frame_weaken old.memory new.memory [] (m.table.block ∷ []) (t.block ∷ []) (t.block ∷ []) (λ addr n some apart. tt)
        (λ addr n some apart rest. rest) (frame_then old.memory mid.memory new.memory [] (t.block ∷ []) (t.block ∷ []) placed frame)) in
        let tabled : IsTableIn k new.memory w.hasher w.table = rw (same_table, same_hasher) table in
        let put : Settled (slots_in k.keys k.values mid.memory t) (slots new.memory w) (key, value) = rw same_table settled in
        let few : m.len < most_pairs = few-placed size align old mid m.table.block m.len (next_slots m.table.slots) (λ t. t.block) t
        (omega (arith, held.within)) made in
        let grown = growth-full m.table.slots m.len full in
        let growth : Growth = if m.len == most_pairs then Overflows else GrowsTo (next_slots m.table.slots) in
        puts-new _ _ _ _ x _ beside framed tabled moved put same_hasher len
        (rw (same_table, len, grows) (next-room m.table.slots m.len held.handle.ring held.within few))
        (subst (λ gr. w.table.slots ≡ capacity_after gr m.table.slots) (sym grown) (rw (same_table, grows) (after few)))
        (subst (λ gr. MakesRoom {X = X} size align old new m.table.block 0 gr (λ _. w.table.block) (Ok x)) (sym grown)
        (room_then size align old mid new m.table.block 0 growth (λ t. t.block) (λ _. w.table.block) t x (ap (λ t. t.block) same_table) made
        places)) told
      where
        after : m.len < most_pairs → next_slots m.table.slots ≡ capacity_after
            (if m.len == most_pairs then Overflows else GrowsTo (next_slots m.table.slots)) m.table.slots
        after few = let less : (m.len == most_pairs) ≡ false = grind (arith, nat_tests) in rw less refl

    -- or refused,
    pub puts-refused : {X Y : Type 0} (new : View) (value : V) (tells : Option V → X → Type 0) (f : Y → Block) (e : AllocError)
        → limit m.table.slots ≤ m.len
        → MakesRoom {X = Y} size align old new m.table.block 0 (if m.len == most_pairs then Overflows else GrowsTo
        (next_slots m.table.slots)) f (Err e)
        → new.memory ≡ old.memory → Puts {X = X} k old new m key value tells m (Err e)
    puts-refused {X} {Y} new value tells f e full made same =
        let refused : MakesRoom {X = X} size align old new m.table.block 0 (growth_for false m.table.slots m.len) (λ _. m.table.block)
        (Err e) =
        subst (λ gr. MakesRoom {X = X} size align old new m.table.block 0 gr (λ _. m.table.block) (Err e))
        (sym (growth-full m.table.slots m.len full))
        (room_refused size align old new m.table.block 0 _ f (λ _. m.table.block) e made) in
        record {
          made = rw is_new refused;
          held = rw same held;
          map_is = tt;
          says = tt;
          len = tt;
          err = (refl, same);
          costs = rw is_new (insert-costs k keys values keys_small values_small old new m m held.handle.ring held.within false (Err e)
              refused
              (record { slots = tt; len = tt; err = refl }));
          hasher = refl;
          frame = rw same (frame_reflexive old.memory (m.table.block ∷ []));
        }

    -- and isn't removed.
    pub takes-none : {X : Type 0} (tells : Option V → X → Type 0) (x : X) → tells None x → TakesOut k old old m key tells m x
    takes-none tells x told =
        let places : SamePlaces old old = record { state = refl; statistics = refl; source = refl } in
        record {
          becomes = record {
            held = held;
            map_is = without-none (map_in k old.memory m) (content_in k.key old.memory key) nothing;
            table = refl;
            hasher = refl;
            places = places;
            costs = free-costs k keys values keys_small values_small old old m m places refl (omega arith);
            frame = frame_reflexive old.memory (m.table.block ∷ []);
          };
          says = rw nothing told;
          len = rw is_new refl;
        }
