-- What calls pay, by their parts: nothing, a text that is placed, a value appended to a vector, a pair in a map; and
-- one after another.
use Rattle.std.proofs.lemmas.Bool.Decides.{nat_tests}
use Rattle.std.proofs.Common.{◌≡◌, ℕ, ◌+◌, ◌-◌, ◌*◌, ◌^◌, ◌<◌, ◌≤◌, refl, arith, false, IsTrue, Ok, Err, Option, List, length}
use Rattle.std.specs.Prelude.{Result, OnErr}
use Rattle.std.proofs.lemmas.Bool.{cases_Bool}
use Rattle.std.proofs.Math.Nat.{mul-le-mul_left}
use Rattle.arena_rules.specs.Rounding.{is_layout}
use Rattle.arena_rules.specs.State.{allocated_bytes}
use Rattle.arena_rules.proofs.AskingLemmas.{asks_more, starved_nearer}
use Rattle.arena_chunks.specs.Answers.{Answer}
use Rattle.arena_chunks.specs.Source.{View}
use Rattle.arena_chunks.specs.BlockCalls.{PlacesBlock}
use Rattle.arena_store.specs.declared.block.Block.{Block}
use Rattle.arena_chunks.proofs.Layers.{asks_same}
use Rattle.arena_items.specs.Costs.{used, Costs, Covers, farthest}
use Rattle.arena_items.specs.Layout.{IsItemLayout}
use Rattle.arena_items.specs.laws.LayoutLaws.{plain_1}
use Rattle.arena_items.specs.Room.{capacity_after, MakesRoom, SamePlaces, TakesRoom, RoomAnswer}
use Rattle.arena_items.specs.Values.{IsHeld}
use Rattle.arena_items.specs.declared.item.Item.{Ghosts}
use Rattle.arena_items.specs.declared.room.AllocError.{AllocError}
use Rattle.arena_items.specs.declared.room.AllocError.TheVariants.{AllocErr, CapacityOverflow}
use Rattle.arena_items.specs.declared.room.Growth.{Growth}
use Rattle.arena_items.specs.declared.room.Growth.TheVariants.{Stays, GrowsTo, Overflows}
use Rattle.arena_items.proofs.Layers.{zero_or_more, row_is_layout, costs_nothing, costs_then, room_costs}
use Rattle.arena_vec.specs.Changes.{Grows}
use Rattle.arena_vec.specs.Credit.{asked_by, credit_of as list_credit}
use Rattle.arena_vec.specs.Growth.{amortised_growth}
use Rattle.arena_vec.specs.Vecs.{IsVecIn}
use Rattle.arena_vec.specs.declared.vec.Vec.{Vec}
use Rattle.arena_hash.specs.Accounts.{spare_of, credit_of}
use Rattle.arena_hash.specs.Changes.{Puts}
use Rattle.arena_hash.specs.Contents.{Kind, content_in}
use Rattle.arena_hash.specs.Finite.{has}
use Rattle.arena_hash.specs.Maps.{map_in}
use Rattle.arena_hash.specs.declared.map.HashMap.{HashMap}
use Rattle.arena_chunks.specs.Asking.{IsCounted}
use Rattle.arena_symbols.specs.Paying.{Pays}

-- A result with another value.
abbrev pub told : {X Y : Type 0} → (X → Y) → Result X AllocError → Result Y AllocError
told f (Ok x) = Ok (f x)
told f (Err e) = Err e

pub told_err : {X Y : Type 0} {e : AllocError} (f : X → Y) (result : Result X AllocError) → told f result ≡ Err e → result ≡ Err e
told_err f result is = grind (arith, nat_tests)

-- ---- No memory

-- Nothing is done, and the result is no refusal by the arena.
pub pays_nothing : {X : Type 0} (far bytes credit : ℕ) (old : View) (result : Result X AllocError)
    → ((k : ℕ) → result ≡ Err (AllocErr k) → ⊥) → Pays far bytes credit credit old old result
pays_nothing far bytes credit old result none = grind (arith, nat_tests, asks_same)

-- No memory is taken, and the credit doesn't rise.
pub pays_places : {X : Type 0} {far bytes before after : ℕ} (old new : View) (x : X) → SamePlaces old new → after ≤ before
    → Pays far bytes before after old new (Ok x)
pays_places {far = far} {bytes = bytes} {before = before} {after = after} old new x places less =
    let costs = costs_nothing far bytes before after old new x places (omega (arith, less)) in
    grind (arith, costs)

-- ---- More, and together

-- A call that is refused only if another is pays as that one does. A further credit stays, and some of the credit
-- afterwards may be ignored.
pub pays_as : {X Y : Type 0} {far near few many before after more later : ℕ} {old new : View} {first : Result X AllocError}
    {result : Result Y AllocError} (rest : ℕ) → ((e : AllocError) → result ≡ Err e → first ≡ Err e) → far ≤ near → few ≤ many
    → before + rest ≡ more → later ≤ after + rest → Pays near few before after old new first → Pays far many more later old new result
pays_as {far = far} {near = near} {few = few} {many = many} {before = before} {more = more} {old = old} {new = new} rest same close le sum
    less pays =
    let asks = asks_more (used old + (few + before)) (used old + (many + more)) old.memory.state new.memory.state old.source new.source
    (omega (arith, sum)) pays.costs.asks in
    let nearer = starved_nearer near far old.memory.state new.memory.state old.source new.source close in
    grind (arith, asks, nearer, same, pays, less)

pub pays_more : {X : Type 0} {far near few many before after more later : ℕ} {old new : View} {result : Result X AllocError} (rest : ℕ)
    → far ≤ near → few ≤ many → before + rest ≡ more → later ≤ after + rest → Pays near few before after old new result
    → Pays far many more later old new result
pays_more rest close le sum less pays = pays_as rest (λ e is. is) close le sum less pays

-- The value of a successful result doesn't matter.
pub pays_told : {X Y : Type 0} {far bytes before after : ℕ} {old new : View} (f : X → Y) (result : Result X AllocError)
    → Pays far bytes before after old new result → Pays far bytes before after old new (told f result)
pays_told f result pays = pays_as 0 (λ e is. grind (arith, is)) (omega arith) (omega arith) (omega arith) (omega arith) pays

pub pays_then : {X Y : Type 0} {far one two before between after : ℕ} {old mid new : View} (x : X) {second : Result Y AllocError}
    → mid.memory.state.is_growing ≡ old.memory.state.is_growing
    → (old.memory.state.is_growing ≡ false → allocated_bytes mid.memory.state ≡ allocated_bytes old.memory.state)
    → OnErr second (after ≤ before) → Pays far one before between old mid (Ok x)
    → Pays (far + 2 ^ 61) two between after mid new second → Pays far (one + two) before after old new second
pays_then x growing still err first more =
    let costs = costs_then _ _ _ _ _ _ _ _ _ (Ok x) _ growing still refl first.costs more.costs in
    grind (arith, costs, err, more.told, first.costs.asks.refusals)

-- ---- Room

-- A refusal of room is the arena's, and reports how many requests were refused.
room_told : {X : Type 0} (size align : ℕ) (old new : View) (block : Block) (cap : ℕ) (f : X → Block) (k : ℕ) (growth : Growth)
    → MakesRoom size align old new block cap growth f (Err (AllocErr k)) → IsCounted k old new
room_told size align old new block cap f k growth made = grind (arith, nat_tests, zero_or_more)

-- What takes the room of a block that grows pays for that block.
pays_room : {X : Type 0} (size align : ℕ) (old new : View) (block : Block) (cap more : ℕ) (f : X → Block) (bytes before after : ℕ)
    (result : Result X AllocError) → old.memory.state.min_align ≡ 1 → IsHeld (cap * size) align old.memory.state block → cap ≤ more
    → Covers bytes before after (more * size) align result → OnErr result (after ≤ before)
    → MakesRoom size align old new block cap (GrowsTo more) f result → Pays farthest bytes before after old new result
pays_room {X} size align old new block cap more f bytes before after result one held greater covers err made = record {
  costs = room_costs old new block size align cap more f bytes before after one held result greater covers made;
  refused = err;
  told = λ k is. room_told size align old new block cap f k (GrowsTo more) (rw is at made);
}

-- ---- A text

abbrev nowhere : Block
nowhere = record { generation = 0; addr = 1; size = 0; align = 1 }

-- placing a text is taking room where there was none
pub pays_text : {X : Type 0} (f : X → Block) (old new : View) (n : ℕ) (result : Result X AllocError) → old.memory.state.min_align ≡ 1
    → n < 2 ^ 32 → RoomAnswer f result (PlacesBlock old new n 1) → Pays farthest n 0 0 old new result
pays_text f old new n result one short places =
    let taken : (answer : Answer) → PlacesBlock old new n 1 answer → TakesRoom old new nowhere 0 (n * 1) 1 answer =
    λ answer placed. grind (arith, placed) in
    pays_room 1 1 old new nowhere 0 n f n 0 0 result one (record { readable = refl; of_size = omega arith; of_align = refl }) (omega arith)
    (grind (arith, short, row_is_layout n 1 1 plain_1 short (omega arith))) (grind arith)
    (record { between = new; took = grind (arith, taken, places); places = record { state = refl; statistics = refl; source = refl } })

-- ---- A value appended to a vector

-- What is known of growth, by the vectors' law: it is paid for in advance, and the capacity never falls.
pub record Paid : Type 0 where
  pub keeps : (size cap required : ℕ) → cap ≤ capacity_after (amortised_growth size cap required) cap
  pub asks : (size cap len n : ℕ) → len ≤ cap → 0 < size → (len + n) * (2 * size) ≤ 2 ^ 32
      → asked_by size (amortised_growth size cap (len + n)) + list_credit size (len + n)
      (capacity_after (amortised_growth size cap (len + n)) cap)
      ≤ list_credit size len cap + 4 * n * size

-- A vector's credit falls with its length, and if its capacity rises.
pub credit_less : (s few many low high : ℕ) → few ≤ many → low ≤ high → list_credit s few high ≤ list_credit s many low
credit_less s few many low high less more = grind (arith, nat_tests, mul-le-mul_left)

module _ {T : Type 0} (paid : Paid) (item : Ghosts T) (plain : IsItemLayout item.SIZE item.ALIGN) (some : 4 ≤ item.SIZE)
    (small : item.SIZE ≤ 2 ^ 24) (low : item.ALIGN ≤ 8) (old new : View) (v w : Vec T) (list : List T)
    (one : old.memory.state.min_align ≡ 1) (held : IsVecIn item old.memory v) (few : (v.raw.len + 1) * (2 * item.SIZE) ≤ 2 ^ 32)
    (longer : length list ≡ v.raw.len + 1) where
  abbrev before : ℕ
  before = list_credit item.SIZE v.raw.len v.raw.cap

  abbrev after : ℕ
  after = list_credit item.SIZE w.raw.len w.raw.cap

  -- The block that is asked for is small.
  row_bytes : (more : ℕ) → more * item.SIZE + list_credit item.SIZE (v.raw.len + 1) more ≤ before + 4 * item.SIZE
      → more * item.SIZE ≤ 2 ^ 32 + 2 * item.SIZE
  row_bytes more asked = grind (arith, nat_tests, mul-le-mul_left)

  row_layout : (more : ℕ) → more * item.SIZE + list_credit item.SIZE (v.raw.len + 1) more ≤ before + 4 * item.SIZE
      → IsTrue (is_layout (more * item.SIZE) item.ALIGN)
  row_layout more asked = grind (arith, nat_tests, mul-le-mul_left, row_is_layout, row_bytes)

  pays_growth : {X : Type 0} (growth : Growth) (result : Result X AllocError) → v.raw.cap ≤ capacity_after growth v.raw.cap
      → asked_by item.SIZE growth + list_credit item.SIZE (v.raw.len + 1) (capacity_after growth v.raw.cap) ≤ before + 4 * item.SIZE
      → (result ≡ Err CapacityOverflow → ⊥) → Grows item old new v growth list w result
      → Pays farthest (4 * item.SIZE + 7) before after old new result
  pays_growth Stays (Ok x) keeps asked fits grows =
      let saved : after ≤ 4 * item.SIZE + 7 + before = rw (grows.len, longer, grows.cap) (omega (arith, asked)) in
      grind (arith, costs_nothing farthest (4 * item.SIZE + 7) before after old new x grows.made.1 saved)
  pays_growth Stays (Err e) keeps asked fits grows = absurd grows.made.0
  pays_growth Overflows result keeps asked fits grows = absurd (fits grows.made.0)
  pays_growth {X} (GrowsTo more) result keeps asked fits grows =
      let most = row_bytes more asked in
      let err : OnErr result (after ≤ before) = grind (arith, grows.err) in
      pays_room item.SIZE item.ALIGN old new v.raw.block v.raw.cap more (λ _. w.raw.block) _ before after result one held.place keeps
      (let layout = row_layout more asked in
      grind (arith, layout, most, small, low, asked, longer, grows.len, grows.cap, err)) err grows.made

  pub pays_push : {X : Type 0} (result : Result X AllocError) → (result ≡ Err CapacityOverflow → ⊥)
      → Grows item old new v (amortised_growth item.SIZE v.raw.cap (v.raw.len + 1)) list w result
      → Pays farthest (4 * item.SIZE + 7) before after old new result
  pays_push result fits grows = grind (arith, nat_tests, pays_growth)

-- ---- A pair in a map

module _ {X K V S : Type 0} (k : Kind K V S) (tells : Option V → X → Type 0) (old new : View) (m w : HashMap K V S) (key : K) (value : V)
  where
    -- What a map's law says of an insert.
    pub pays_insert : (bytes : ℕ) (result : Result X AllocError)
        → Costs farthest bytes (credit_of k m) (credit_of k w) old new result → Puts k old new m key value tells w result
        → Pays farthest bytes (credit_of k m) (credit_of k w) old new result
    pays_insert bytes result costs puts =
        let told : (j : ℕ) → result ≡ Err (AllocErr j) → IsCounted j old new = λ j is.
        room_told _ _ old new m.table.block 0 (λ (x : X). w.table.block) j _ (rw is at puts.made) in
        grind (arith, costs, puts.costs.refused, told)

    -- It fits if there are fewer pairs than a map can have.
    pub insert_fits : (result : Result X AllocError) → m.len < 2 ^ 32 - 1 → Puts k old new m key value tells w result
        → result ≡ Err CapacityOverflow → ⊥
    insert_fits result few puts is =
        let costs = rw is at puts.costs in
        let new = has (map_in k old.memory m) (content_in k.key old.memory key) in
        grind (arith, cases_Bool new, zero_or_more (spare_of m), costs.there, costs.asks, costs.room)
