-- Texts whose bytes are written.
use Rattle.std.proofs.Common.{◌≡◌, add-one, ℕ, ◌+◌, ◌^◌, ◌≤◌, ◌<◌, List, [], ◌∷◌, ◌++◌, length, take, set, get_or, subst, Ok, Err, refl, ap, sym, ◌∙◌, IsTrue, IsUtf8, Result, IsOk, arith}
use Rattle.std.proofs.lemmas.Grind.{common_steps}
use Rattle.std.proofs.lemmas.List.{append_assoc, set_split, take_all, length-take-le, take_more, flat_map_more, length-append}
use Rattle.std.proofs.lemmas.List.Folds.{length-flat_map-take}
use Rattle.std.proofs.lemmas.Str.{IsUtf8-append}
use Rattle.std.proofs.Math.Seq.{take-set-lt}
use Rattle.std.specs.List.{flat_map}
use Rattle.arena_rules.specs.Lists.{splice}
use Rattle.arena_chunks.specs.Memory.{Memory, image, bytes_from, is_readable}
use Rattle.arena_chunks.specs.Source.{View}
use Rattle.arena_chunks.specs.Frame.{Frame}
use Rattle.arena_chunks.specs.BlockCalls.{WritesBlock}
use Rattle.arena_store.specs.declared.block.Block.{Block}
use Rattle.arena_chunks.proofs.Layers.{length-bytes, bytes_within, take_bytes, writes_more, empty_before, frame_then, frame_reflexive, wrote_part, wrote_whole, edits_to}
use Rattle.arena_items.specs.Values.{bytes_of}
use Rattle.arena_items.specs.Room.{MakesRoom, SamePlaces}
use Rattle.arena_items.specs.declared.room.Growth.{Growth}
use Rattle.arena_items.specs.declared.room.AllocError.{AllocError}
use Rattle.arena_items.specs.declared.room.AllocError.TheVariants.{CapacityOverflow}
use Rattle.arena_items.proofs.Layers.{front_readable, same_then, wrote_same, room_then, room_refused}
use Rattle.arena_text.specs.Growth.{new_growth, amortised_growth}
use Rattle.arena_text.specs.Builders.{IsBuilderIn, builder_bytes, no_block}
use Rattle.arena_text.specs.Changes.{Becomes, Grows, Makes, IsGrown}
use Rattle.arena_text.specs.declared.text.StringBuilder.{StringBuilder}
use Rattle.arena_text.proofs.RoomLemmas.{new_capacity, too_many, room_there}

-- ---- Bytes

-- A front of a list of which the part after it is replaced,
front_then : (at : ℕ) (bs ys : List ℕ) → at + length ys ≤ length bs → take (at + length ys) (splice bs at ys) ≡ take at bs ++ ys
front_then at bs ys within = grind (arith, common_steps)

-- one whose front moves up by one, after another value,
front_below : (n x : ℕ) (bs : List ℕ) → n + 1 ≤ length bs
    → take (n + 1) (splice (splice bs 1 (take n bs)) 0 (x ∷ [])) ≡ x ∷ take n bs
front_below n x bs within = grind (arith, common_steps)

-- and one in which a value is replaced.
front_set : (n i x : ℕ) (bs : List ℕ) → i < n → n ≤ length bs → take n (splice bs i (x ∷ [])) ≡ set (take n bs) i x
front_set n i x bs inside within = rw (append_assoc, add-one, ← set_split bs i x (omega arith)) (take-set-lt n bs i x inside)

-- for a change in place
pub ruleset edits = (edits_to, length-bytes)

-- for texts one after another
pub ruleset rows = (length-flat_map-take)

-- ---- Texts

abbrev block_of : StringBuilder → Block
block_of t = t.block

-- the length of a text's block
long : (m : Memory) (t : StringBuilder) → IsBuilderIn m t → length (bytes_of m t.block) ≡ t.cap
long m t held = length-bytes (image m) t.block.addr t.block.size ∙ held.place.of_size

-- A text is held after a write in its block, with any length up to its capacity.
held_still : (old new : View) (t : StringBuilder) (n : ℕ) → IsBuilderIn old.memory t → n ≤ t.cap → SamePlaces old new
    → IsBuilderIn new.memory (record t { len = n })
held_still old new t n held within same = grind (arith, held.place, same)

-- Its length is that of its bytes.
pub counted : (m : Memory) (t : StringBuilder) → IsBuilderIn m t → t.len ≡ length (builder_bytes m t)
counted m t held = sym (length-take-le t.len (bytes_of m t.block) (omega (arith, long m t held, held.within)))

-- What is written in its block is there, between the rest.
spliced : (old new : View) (t : StringBuilder) (at : ℕ) (list : List ℕ) → IsBuilderIn old.memory t → at + length list ≤ t.cap
    → WritesBlock old.memory new.memory t.block at list → bytes_of new.memory t.block ≡ splice (bytes_of old.memory t.block) at list
spliced old new t at list held fits writes =
    wrote_part old.memory new.memory t.block at list writes (omega (arith, fits, held.place.of_size))

-- A byte of a text is replaced.
pub replaced : (old new : View) (t : StringBuilder) (i byte : ℕ) → IsBuilderIn old.memory t → i < t.len
    → WritesBlock old.memory new.memory t.block i (byte ∷ []) → new.source ≡ old.source
    → Becomes old new t (set (builder_bytes old.memory t) i byte) t
replaced old new t i byte held inside writes source =
    let same = wrote_same old new t.block i (byte ∷ []) writes source in
    let now = held_still old new t t.len held held.within same in
    let bytes = spliced old new t i (byte ∷ []) held (omega (arith, held.within)) writes in
    let count = counted new.memory t now in
    grind (arith, now, same, writes, bytes, front_set t.len i byte (bytes_of old.memory t.block), long old.memory t held, count)

module _ (old mid : View) (t : StringBuilder) (growth : Growth) where
  module _ (u : StringBuilder) (made : MakesRoom 1 1 old mid t.block t.cap growth (λ u. u.block) (Ok u))
      (grown : IsGrown old.memory mid.memory t growth u) where
    -- Room was made, and bytes were written there, so that the first n are these.
    grows : (new : View) (n : ℕ) (list : List ℕ) → n ≤ u.cap → SamePlaces mid new
        → Frame mid.memory new.memory (u.block ∷ []) (u.block ∷ []) → take n (bytes_of new.memory u.block) ≡ list
        → Grows old new t growth list (record { block = u.block; len = n; cap = u.cap }) (Ok tt)
    grows new n list within same frame bytes =
        let held = held_still mid new u n grown.held within same in
        let frame = frame_then old.memory mid.memory new.memory (t.block ∷ []) (u.block ∷ []) (u.block ∷ []) grown.frame frame in
        let made = room_then 1 1 old mid new t.block t.cap growth block_of (λ _. u.block) u (tt {0}) refl made same in
        grind (arith, made, held, counted new.memory (record u { len = n }) held, grown.cap, frame)

    -- Nothing was written.
    pub reserves : Grows old mid t growth (builder_bytes old.memory t) u (Ok tt)
    reserves = grows mid u.len (builder_bytes old.memory t) grown.held.within (record { state = refl; statistics = refl; source = refl })
        (frame_reflexive mid.memory (u.block ∷ [])) grown.bytes_are

    -- Bytes were appended.
    pub pushed : (new : View) (list : List ℕ) → u.len + length list ≤ u.cap
        → WritesBlock mid.memory new.memory u.block u.len list → new.source ≡ mid.source
        → Grows old new t growth (builder_bytes old.memory t ++ list)
        (record { block = u.block; len = u.len + length list; cap = u.cap }) (Ok tt)
    pushed new list room writes source =
        grows _ (u.len + length list) _ room (wrote_same mid new u.block u.len list writes source) writes.frame
        (ap (take (u.len + length list)) (spliced mid new _ _ _ grown.held room writes) ∙ front_then u.len (bytes_of mid.memory u.block)
        list (omega (arith, long _ _ grown.held)) ∙ ap (λ bs. bs ++ list) grown.bytes_are)

    -- All bytes were moved up by one, and one was written before them.
    pub pushed_below : (two new : View) (byte : ℕ) → u.len + 1 ≤ u.cap
        → WritesBlock mid.memory two.memory u.block 1 (bytes_from (image mid.memory) (u.block.addr + 0) u.len) → two.source ≡ mid.source
        → WritesBlock two.memory new.memory u.block 0 (byte ∷ []) → new.source ≡ two.source
        → Grows old new t growth (byte ∷ builder_bytes old.memory t) (record { block = u.block; len = u.len + 1; cap = u.cap }) (Ok tt)
    pushed_below two new byte room moves one writes other =
        let bs = bytes_of mid.memory u.block in
        let sized = length-bytes (image mid.memory) (u.block.addr + 0) u.len in
        let same = same_then mid two new (wrote_same mid two u.block 1 _ moves one) (wrote_same two new u.block 0 _ writes other) in
        let front = bytes_within (image mid.memory) u.block.addr u.block.size 0 u.len (omega (arith, room, grown.held.place.of_size)) in
        let moved = spliced mid two _ _ _ grown.held (omega (arith, sized, room)) moves in
        let still = held_still _ _ _ u.len grown.held grown.held.within (wrote_same mid two u.block 1 _ moves one) in
        let put = spliced two new _ _ _ still (omega (arith, room)) writes in
        grows _ (u.len + 1) _ room same (frame_then mid.memory two.memory new.memory (u.block ∷ []) (u.block ∷ []) (u.block ∷ [])
        moves.frame writes.frame) (ap (take (u.len + 1)) (put ∙ ap (λ l. splice l 0 (byte ∷ [])) (moved ∙ ap (splice bs 1) (sym front))) ∙
        front_below u.len byte bs (omega (arith, room, long _ _ grown.held)) ∙ ap (λ bs. byte ∷ bs) grown.bytes_are)

  -- There was no room.
  pub refused : (list : List ℕ) (e : AllocError) → IsBuilderIn old.memory t
      → MakesRoom 1 1 old mid t.block t.cap growth block_of (Err e) → mid.memory ≡ old.memory
      → Grows old mid t growth list t (Err e)
  refused list e held made same = let frame = frame_reflexive old.memory (t.block ∷ []) in
      grind (arith, room_refused {Y = Unit {0}} 1 1 old mid t.block t.cap growth block_of (λ _. t.block) e made, frame)

-- ---- Texts that are made

-- Room was made for a text of no bytes.
pub made_empty : (old new : View) (empty t : StringBuilder) (room : ℕ) → empty.block ≡ no_block → empty.len ≡ 0 → empty.cap ≡ 0
    → MakesRoom 1 1 old new empty.block empty.cap (new_growth room) (λ t. t.block) (Ok t)
    → IsGrown old.memory new.memory empty (new_growth room) t → Makes old new room [] (Ok t)
made_empty old new empty t room block none cap made grown =
    let is = rw (block, cap) at made in
    let frame = (empty_before old.memory new.memory [] [] (t.block ∷ []) empty.block (ap (λ b. b.size) block)).0 grown.frame in
    grind (arith, is, grown, new_capacity old new no_block room (λ t. t.block) t is, frame)

-- Then its room was filled.
pub made_full : (old mid new : View) (t : StringBuilder) (list : List ℕ) → Makes old mid (length list) [] (Ok t)
    → WritesBlock mid.memory new.memory t.block 0 list → new.source ≡ mid.source
    → Makes old new (length list) list (Ok (record { block = t.block; len = t.cap; cap = t.cap }))
made_full old mid new t list made writes source =
    let same = wrote_same mid new t.block 0 list writes source in
    let held = held_still mid new t t.cap made.held (omega arith) same in
    let whole = wrote_whole mid.memory new.memory t.block list writes (omega (arith, made.cap, made.held.place.of_size)) in
    let full : StringBuilder = record { block = t.block; len = t.cap; cap = t.cap } in
    let room = room_then 1 1 old mid new no_block 0 (new_growth (length list)) block_of block_of t full refl made.made same in
    let frame = frame_then old.memory mid.memory new.memory [] (t.block ∷ []) (t.block ∷ []) made.frame writes.frame in
    grind (arith, room, held, take_all t.cap (bytes_of new.memory t.block), long new.memory full held, whole, made.cap, frame)

-- There is no room for that many bytes.
pub not_made : (view : View) (n : ℕ) (bytes : List ℕ) → 2 ^ 64 ≤ n → Makes view view n bytes (Err CapacityOverflow)
not_made view n bytes many = grind (arith, too_many n (omega arith))

-- One text more after the first i:
texts_more : {T : Type 0} (f : T → List ℕ) (xs : List T) (i : ℕ) (x : T) → i < length xs → x ≡ get_or xs i x
    → flat_map f (take i xs) ++ f x ≡ flat_map f (take (i + 1) xs)
texts_more f xs i x inside is = flat_map_more f [] (take i xs) x ∙ rw (take_more xs i x inside, ← is) refl

-- they are UTF-8,
pub utf8_more : {T : Type 0} (f : T → List ℕ) (xs : List T) (i : ℕ) (x : T) → i < length xs → x ≡ get_or xs i x
    → IsUtf8 (flat_map f (take i xs)) → IsUtf8 (f x) → IsUtf8 (flat_map f (take (i + 1) xs))
utf8_more f xs i x inside is texts text = subst IsUtf8 (texts_more f xs i x inside is) (IsUtf8-append _ _ texts text)

-- and they are written at its place.
pub one_more : {T : Type 0} (f : T → List ℕ) (xs : List T) (i : ℕ) (x : T) (old mid new : Memory) (b : Block) (at : ℕ) → i < length xs
    → x ≡ get_or xs i x → at ≡ length (flat_map f (take i xs)) → WritesBlock old mid b 0 (flat_map f (take i xs))
    → WritesBlock mid new b at (f x)
    → WritesBlock old new b 0 (flat_map f (take (i + 1) xs)) × (at + length (f x) ≡ length (flat_map f (take (i + 1) xs)))
one_more f xs i x old mid new b at inside is end first second =
    let list = flat_map f (take i xs) in
    let behind : at ≡ 0 + length list = omega (arith, end) in
    let both = writes_more old mid new b 0 list (f x) first (rw behind at second) in
    rw (← texts_more f xs i x inside is) (both, omega (arith, end, length-append list (f x)))

-- ---- Calls within the room that there is

-- They aren't refused,
pub stays_ok : (old new : View) (t u : StringBuilder) (n : ℕ) (list : List ℕ) (result : Result (Unit {0}) AllocError) → t.len + n ≤ t.cap
    → Grows old new t (amortised_growth t.cap t.len n) list u result → IsOk result × SamePlaces old new
stays_ok old new t u n list result room is = grind (arith, rw (room_there t.cap t.len n room) at is.made)

pub never_refused : (old new : View) (t u : StringBuilder) (n : ℕ) (list : List ℕ) (e : AllocError) → t.len + n ≤ t.cap
    → ¬ (Grows old new t (amortised_growth t.cap t.len n) list u (Err e))
never_refused old new t u n list e room is = let ok = (stays_ok old new t u n list (Err e) room is).0 in cc

-- and are one with the call that made the room.
pub made_within : (old mid new : View) (t u : StringBuilder) (room n : ℕ) (first list : List ℕ) → Makes old mid room first (Ok t)
    → t.len + n ≤ t.cap → Grows mid new t (amortised_growth t.cap t.len n) list u (Ok tt) → Makes old new room list (Ok u)
made_within old mid new t u room n first list made fits one =
    let stays = room_there t.cap t.len n fits in
    let there = rw stays at one.made in
    let room = room_then 1 1 old mid new no_block 0 (new_growth room) block_of block_of t u there.0 made.made there.1 in
    let frame = frame_then old.memory mid.memory new.memory [] (t.block ∷ []) (u.block ∷ []) made.frame one.frame in
    grind (arith, one, stays, made.cap, room, frame)

pub grown_within : (old mid new : View) (t u v : StringBuilder) (growth : Growth) (n : ℕ) (first list : List ℕ)
    (result : Result (Unit {0}) AllocError) → Grows old mid t growth first u (Ok tt) → u.len + n ≤ u.cap
    → Grows mid new u (amortised_growth u.cap u.len n) list v result → Grows old new t growth list v result
grown_within old mid new t u v growth n first list (Err e) one fits two = absurd (never_refused mid new u v n list e fits two)
grown_within old mid new t u v growth n first list (Ok x) one fits two =
    let stays = room_there u.cap u.len n fits in
    let there = rw stays at two.made in
    let made = room_then 1 1 old mid new t.block t.cap growth (λ _. u.block) (λ _. v.block) (tt {0}) x there.0 one.made there.1 in
    let frame = frame_then old.memory mid.memory new.memory (t.block ∷ []) (u.block ∷ []) (v.block ∷ []) one.frame two.frame in
    grind (arith, two, stays, one.cap, made, frame)

-- ---- Texts that are read

-- The bytes of a text are a front of its block's.
pub front_bytes : (m : Memory) (t : StringBuilder) → IsBuilderIn m t → bytes_from (image m) t.block.addr t.len ≡ builder_bytes m t
front_bytes m t held = sym (take_bytes (image m) t.block.addr t.block.size t.len (omega (arith, held.within, held.place.of_size)))

-- They are readable there.
pub front_held : (m : Memory) (t : StringBuilder) → IsBuilderIn m t → IsTrue (is_readable m.state (record t.block { size = t.len }))
front_held m t held = front_readable m.state t.block t.len held.place.readable (omega (arith, held.within, held.place.of_size))

-- for automatic proof
pub ruleset text_laws = (reserves, pushed, pushed_below, refused, replaced, made_empty, made_full, front_bytes, front_held, counted)
