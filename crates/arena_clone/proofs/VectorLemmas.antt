-- Copies of vectors: storage is made for exactly their values, and then they are copied.
use Rattle.std.proofs.Common.{◌≡◌, ℕ, ◌*◌, ◌<◌, ◌≤◌, ap, sym, refl, subst, ◌∙◌, arith, Some, None, List, [], ◌∷◌, Ok, Err, Bool, true, false}
use Rattle.std.specs.Prelude.{Result, OnErr, if◌then◌else◌}
use Rattle.std.proofs.lemmas.Bool.{cases_eq}
use Rattle.std.proofs.lemmas.Bool.Decides.{nat_tests}
use Rattle.arena_chunks.specs.Memory.{Memory}
use Rattle.arena_chunks.specs.Source.{View}
use Rattle.arena_chunks.specs.BlockCalls.{PlacesBlock}
use Rattle.arena_store.specs.declared.block.Block.{Block}
use Rattle.arena_chunks.proofs.Layers.{frame_reflexive}
use Rattle.arena_items.specs.Room.{TakesRoom, MakesRoom, RoomAnswer, SamePlaces, capacity_after}
use Rattle.arena_items.specs.declared.item.Item.{Ghosts}
use Rattle.arena_items.specs.declared.room.Growth.{Growth}
use Rattle.arena_items.specs.declared.room.Growth.TheVariants.{Stays, GrowsTo, Overflows}
use Rattle.arena_items.specs.declared.room.AllocError.{AllocError}
use Rattle.arena_items.specs.declared.room.AllocError.TheVariants.{AllocErr, CapacityOverflow, OutOfMemory}
use Rattle.arena_vec.specs.Growth.{fits, growth_to, empty_capacity, new_growth}
use Rattle.arena_vec.specs.Held.{empty_block}
use Rattle.arena_vec.specs.Storage.{Makes}
use Rattle.arena_vec.specs.Vecs.{IsVecIn, vec_list}
use Rattle.arena_vec.specs.declared.vec.Vec.{Vec}
use Rattle.arena_clone.specs.Asks.{AsksFor, PlacesAll, refusal, ask_by, vector_ask}
use Rattle.arena_clone.specs.Kinds.{Kind, vec_of}
use Rattle.arena_clone.specs.Copies.{Copies}
use Rattle.arena_clone.specs.Rows.{CopiesRow}
use Rattle.arena_kinds.specs.declared.ids.CloneInSemanticIds.{CloneInSemanticIds}
use Rattle.arena_kinds.proofs.Layers.{same_places, block_of, took_asked}
use Rattle.arena_clone.proofs.ThroughLemmas.{own_refused, value_refused, values_made}

-- ---- Growth without a block

-- what a growth is made of
grows_by : (is_there can : Bool) (n more : ℕ) → (if is_there then Stays else (if can then GrowsTo n else Overflows)) ≡ GrowsTo more
    → (is_there ≡ false) × (can ≡ true) × (more ≡ n)
grows_by is_there can n more is = grind (arith, nat_tests)

-- A new vector that grows had no room, and grows to exactly what is required.
new_grows : (size n more : ℕ) → new_growth size n ≡ GrowsTo more → (empty_capacity size ≡ 0) × (more ≡ n)
unfolding fits growth_to
new_grows size n more is = grind (arith, nat_tests, grows_by, cases_eq)

-- so if its values have bytes it has room for exactly those
new_trim : (growth : Growth) (cap n c : ℕ) → cap ≡ 0 → ((more : ℕ) → growth ≡ GrowsTo more → more ≡ n)
    → c ≡ capacity_after growth cap → n ≤ c → c ≡ n
new_trim growth cap n c none to is enough = grind (arith, nat_tests)

-- ---- Storage that is made

module _ {X : Type 0} (f : X → Block) (size align cap : ℕ) (old new : View) where
  -- Room that is made where there was none is one block that is asked for.
  pub made_asked : (growth : Growth) → ((more : ℕ) → growth ≡ GrowsTo more → cap ≡ 0) → (result : Result X AllocError)
      → MakesRoom size align old new (empty_block align) cap growth f result → OnErr result (new.memory ≡ old.memory)
      → AsksFor (ask_by size align growth ∷ []) old new (block_of f result) (refusal result)
  made_asked Stays none (Ok x) made same = ([], ap (λ b. b ∷ []) made.0, (refl, refl, made.1))
  made_asked Stays none (Err e) made same = absurd made.0
  made_asked (GrowsTo more) none result made same =
      took_asked f (more * size) align old new result
      (record { between = made.between; took = placed result made.took; places = made.places }) same
    where
      placed : (result : Result X AllocError)
          → RoomAnswer f result (TakesRoom old made.between (empty_block align) cap (more * size) align)
          → RoomAnswer f result (PlacesBlock old made.between (more * size) align)
      placed (Ok x) takes = takes.placed (none more refl)
      placed (Err (AllocErr k)) takes = takes.placed (none more refl)
      placed (Err OutOfMemory) takes = takes.placed (none more refl)
      placed (Err CapacityOverflow) takes = absurd takes
  made_asked Overflows none (Ok x) made same = absurd (let no = made.0 in cc)
  made_asked Overflows none (Err e) made same =
      let is : e ≡ CapacityOverflow = (let so = made.0 in cc) in
      (ap Some is, refl, subst (SamePlaces old) (sym made.1) (same_places old))

-- ---- Vectors

module _ {T : Type 0} (item : Ghosts T) (kind : Kind T) (ids : CloneInSemanticIds) (source : Memory) {old : View} (v : Vec T) where
  storage_asked : {mid : View} (result : Result (Vec T) AllocError) → Makes {X = Vec T} item (λ w. w.raw) old mid v.raw.len [] result
      → AsksFor (vector_ask item.SIZE item.ALIGN v.raw.len ∷ []) old mid (block_of (λ (w : Vec T). w.raw.block) result) (refusal result)
  storage_asked {mid} result makes =
      made_asked (λ (w : Vec T). w.raw.block) item.SIZE item.ALIGN (empty_capacity item.SIZE) old mid (new_growth item.SIZE v.raw.len)
      (λ more grows. (new_grows item.SIZE v.raw.len more grows).0) result makes.made makes.err

  -- The storage is refused,
  pub vec_refused : {new : View} {e : AllocError} → Makes {X = Vec T} item (λ w. w.raw) old new v.raw.len [] (Err e)
      → Copies (vec_of item kind) ids source old new v (Err e)
  vec_refused {e} makes =
      own_refused item kind (λ v. v.raw.block) (IsVecIn item) (vec_list item) (λ v. 0 < item.SIZE → v.raw.cap ≡ v.raw.len)
      (λ v. vector_ask item.SIZE item.ALIGN v.raw.len) ids source v
      (record { asked = storage_asked (Err e) makes; apart = tt; frame = rw makes.err (frame_reflexive old.memory []) })

  module _ {mid : View} {made : Vec T} (makes : Makes {X = Vec T} item (λ w. w.raw) old mid v.raw.len [] (Ok made)) where
    storage_placed : PlacesAll (vector_ask item.SIZE item.ALIGN v.raw.len ∷ []) old mid (made.raw.block ∷ []) None
    storage_placed = record { asked = storage_asked (Ok made) makes; apart = (tt, tt); frame = makes.frame }

    -- or a value,
    pub vec_value_refused : {X : Type 0} {new : View} {ys : List T} {e : AllocError}
        → CopiesRow {X = X} kind ids source mid new made.raw.block (vec_list item source v) ys (Err e)
        → Copies (vec_of item kind) ids source old new v (Err e)
    vec_value_refused row =
        value_refused item kind (λ v. v.raw.block) (IsVecIn item) (vec_list item) (λ v. 0 < item.SIZE → v.raw.cap ≡ v.raw.len)
        (λ v. vector_ask item.SIZE item.ALIGN v.raw.len) ids source v storage_placed row

    -- or all are copied.
    pub vec_made : {X : Type 0} {new : View} {w : Vec T} {x : X} → w.raw.block ≡ made.raw.block → w.raw.cap ≡ made.raw.cap
        → w.raw.len ≡ v.raw.len
        → CopiesRow kind ids source mid new made.raw.block (vec_list item source v) (vec_list item new.memory w) (Ok x)
        → Copies (vec_of item kind) ids source old new v (Ok w)
    vec_made at room long row =
        let place = makes.held.place in
        values_made item kind (λ v. v.raw.block) (IsVecIn item) (vec_list item) (λ v. 0 < item.SIZE → v.raw.cap ≡ v.raw.len)
        (λ v. vector_ask item.SIZE item.ALIGN v.raw.len) ids source v storage_placed row at
        (record {
          place = rw (at, room) (record { readable = row.readable; of_size = place.of_size; of_align = place.of_align });
          within = rw (room, long) makes.enough;
          no_bytes = λ none. room ∙ makes.held.no_bytes none;
        })
        (λ some. room ∙ new_trim (new_growth item.SIZE v.raw.len) (empty_capacity item.SIZE) v.raw.len made.raw.cap
        (grind (arith, nat_tests)) (λ more grows. (new_grows item.SIZE v.raw.len more grows).1) makes.cap makes.enough ∙ sym long)
