-- What calls ask their arena for, and what calls after one another ask for together.
use Rattle.std.proofs.lemmas.Bool.Decides.{nat_tests}
use Rattle.std.proofs.Common.{arith, ◌≡◌, ◌≢◌, ◌⊎◌, inl, inr, true, false, ℕ, zero, suc, ◌+◌, ◌*◌, ◌/◌, ◌<◌, refl, sym, ap, ◌∙◌, subst, Result, Ok, Err, Option, Some, None, List, [], ◌∷◌, ◌++◌, length, take, ◌==◌}
use Rattle.std.proofs.Math.Seq.{take-append-add}
use Rattle.std.specs.Prelude.{slice_get}
use Rattle.arena_chunks.specs.Source.{View}
use Rattle.arena_chunks.specs.Answers.{Answer}
use Rattle.arena_chunks.specs.Answers.Answer.{Placed, Refused, Exhausted}
use Rattle.arena_chunks.specs.BlockCalls.{PlacesBlock}
use Rattle.arena_store.specs.declared.block.Block.{Block}
use Rattle.arena_items.specs.Room.{MakesRoom, TakesRoom, RoomAnswer, SamePlaces}
use Rattle.arena_items.specs.Asks.{Ask, NoBlock, Fresh, Larger, first_or_larger, room_ask, solid, capacity_of, Asked, TakesBlock, refusal, meant, Runs, EndsAt}
use Rattle.arena_items.specs.declared.room.Growth.{Growth}
use Rattle.arena_items.specs.declared.room.Growth.TheVariants.{Stays, GrowsTo, Overflows}
use Rattle.arena_items.specs.declared.room.AllocError.{AllocError}
use Rattle.arena_items.specs.declared.room.AllocError.TheVariants.{AllocErr, CapacityOverflow, OutOfMemory}
use Rattle.arena_items.proofs.RoomLemmas.{zero_or_more, same_then}

pub still : (a : View) → SamePlaces a a
still a = record { state = refl; statistics = refl; source = refl }

-- ---- Blocks of no bytes

pub by_size : (b : Block) → ((b.size ≡ 0) × (solid b ≡ None)) ⊎ ((0 < b.size) × (solid b ≡ Some b))
by_size b = elim (zero_or_more b.size) [
  | inl none ↦ inl (none, let t : (b.size == 0) ≡ true = grind (arith, nat_tests) in rw t refl)
  | inr some ↦ inr (some, let t : (b.size == 0) ≡ false = grind (arith, nat_tests) in rw t refl)
]

pub empty_solid : (b : Block) → b.size ≡ 0 → solid b ≡ None
empty_solid b none = let t : (b.size == 0) ≡ true = grind (arith, nat_tests) in rw t refl

pub capacity_is : (size cap : ℕ) (b : Block) → (b.size ≡ 0 → cap ≡ 0) → b.size / size ≡ cap → capacity_of size (solid b) ≡ cap
capacity_is size cap b none is = elim (by_size b) [
  | inl empty ↦ ap (capacity_of size) empty.1 ∙ sym (none empty.0)
  | inr some ↦ ap (capacity_of size) some.1 ∙ is
]

-- ---- One new block

pub block_taken : (old new : View) (size align : ℕ) (before : Option Block) (b : Block) → PlacesBlock old new size align (Placed b)
    → TakesBlock (Fresh size align) before old new (solid b)
block_taken old new size align before b places =
    (b, refl, record { start = old; between = new; written = still old; answers = places; places = still new })

pub block_asked : {X : Type 0} (old new : View) (size align : ℕ) (f : X → Block) (e : AllocError)
    → RoomAnswer f (Err e) (PlacesBlock old new size align) → Asked (Fresh size align) old new (refusal e)
block_asked old new size align f (AllocErr k) places =
    record { start = old; between = new; written = still old; answers = places; places = still new }
block_asked old new size align f OutOfMemory places =
    record { start = old; between = new; written = still old; answers = places; places = still new }
block_asked old new size align f CapacityOverflow places = absurd places

overflows : {X : Type 0} (e : AllocError) → e ≢ CapacityOverflow → ◌≡◌ {A = Result X AllocError} (Err e) (Err CapacityOverflow) → ⊥
overflows (AllocErr k) fits is = absurd (cc)
overflows OutOfMemory fits is = absurd (cc)
overflows CapacityOverflow fits is = fits refl

-- ---- The block of a growth

module _ {X : Type 0} (old new : View) (block : Block) (size align cap : ℕ) (f : X → Block) (none : block.size ≡ 0 → cap ≡ 0)
    (some : 0 < block.size → 0 < cap) where
  -- the ask of a growth, and what the arena answers
  by : (more : ℕ) (between : View) (answer : Answer) (P : Ask Block → Option Block → Type 0)
      → TakesRoom old between block cap (more * size) align answer → SamePlaces between new
      → (Asked (Fresh (more * size) align) old new answer → P (Fresh (more * size) align) None)
      → (Asked (Larger block (more * size) align) old new answer → P (Larger block (more * size) align) (Some block))
      → P (first_or_larger (solid block) (more * size) align) (solid block)
  by more between answer P took same first later = elim (by_size block) [
    | inl empty ↦ subst (λ o. P (first_or_larger o (more * size) align) o) (sym empty.1)
        (first (record { start = old; between = between; written = still old; answers = took.placed (none empty.0); places = same }))
    | inr is ↦ subst (λ o. P (first_or_larger o (more * size) align) o) (sym is.1)
        (later (record { start = old; between = between; written = still old; answers = took.grown (some is.0); places = same }))
  ]

  pub growth_taken : (growth : Growth) (x : X) → MakesRoom size align old new block cap growth f (Ok x)
      → TakesBlock (room_ask size align (solid block) growth) (solid block) old new (solid (f x))
  growth_taken Stays x made = (ap solid made.0, made.1)
  growth_taken (GrowsTo more) x made = by more made.between (Placed (f x)) (λ ask o. TakesBlock ask o old new (solid (f x))) made.took
      made.places (λ asked. (f x, refl, asked)) (λ asked. (f x, refl, asked))
  growth_taken Overflows x made = absurd (let no = made.0 in cc)

  pub growth_asked : (growth : Growth) (e : AllocError) → e ≢ CapacityOverflow → MakesRoom size align old new block cap growth f (Err e)
      → Asked (room_ask size align (solid block) growth) old new (refusal e)
  growth_asked Stays e fits made = absurd made.0
  growth_asked (GrowsTo more) (AllocErr k) fits made =
      by more made.between (Refused k) (λ ask o. Asked ask old new (Refused k)) made.took made.places (λ asked. asked) (λ asked. asked)
  growth_asked (GrowsTo more) OutOfMemory fits made =
      by more made.between Exhausted (λ ask o. Asked ask old new Exhausted) made.took made.places (λ asked. asked) (λ asked. asked)
  growth_asked (GrowsTo more) CapacityOverflow fits made = absurd made.took
  growth_asked Overflows e fits made = absurd (overflows {X = X} e fits made.0)

-- where each block is a new one
module _ {X : Type 0} (old new : View) (block : Block) (size align : ℕ) (f : X → Block) where
  pub table_taken : (growth : Growth) (x : X) → MakesRoom size align old new block 0 growth f (Ok x)
      → TakesBlock (room_ask size align None growth) (solid block) old new (solid (f x))
  table_taken Stays x made = (ap solid made.0, made.1)
  table_taken (GrowsTo more) x made = (
    f x,
    refl,
    record { start = old; between = made.between; written = still old; answers = made.took.placed refl; places = made.places },
  )
  table_taken Overflows x made = absurd (let no = made.0 in cc)

  pub table_asked : (growth : Growth) (e : AllocError) → e ≢ CapacityOverflow → MakesRoom size align old new block 0 growth f (Err e)
      → Asked (room_ask size align None growth) old new (refusal e)
  table_asked Stays e fits made = absurd made.0
  table_asked (GrowsTo more) (AllocErr k) fits made =
      record { start = old; between = made.between; written = still old; answers = made.took.placed refl; places = made.places }
  table_asked (GrowsTo more) OutOfMemory fits made =
      record { start = old; between = made.between; written = still old; answers = made.took.placed refl; places = made.places }
  table_asked (GrowsTo more) CapacityOverflow fits made = absurd made.took
  table_asked Overflows e fits made = absurd (overflows {X = X} e fits made.0)

-- ---- Block after block

-- Bytes that are written before and after change nothing.
asked_behind : (ask : Ask Block) (old mid new : View) (answer : Answer) → SamePlaces old mid → Asked ask mid new answer → Asked ask old new answer
asked_behind ask old mid new answer same asked = record {
  start = asked.start;
  between = asked.between;
  written = same_then old mid asked.start same asked.written;
  answers = asked.answers;
  places = asked.places;
}

pub asked_before : (ask : Ask Block) (old mid new : View) (answer : Answer) → Asked ask old mid answer → SamePlaces mid new → Asked ask old new answer
asked_before ask old mid new answer asked same = record {
  start = asked.start;
  between = asked.between;
  written = asked.written;
  answers = asked.answers;
  places = same_then asked.between mid new asked.places same;
}

pub runs_behind : (asks : List (Ask ℕ)) (blocks later : List Block) (old mid new : View) → SamePlaces old mid
    → Runs asks blocks mid later new → Runs asks blocks old later new
unfolding Runs
runs_behind [] blocks later old mid new same (is, rest) = (is, same_then old mid new same rest)
runs_behind (NoBlock ∷ asks) blocks later old mid new same runs = runs_behind asks blocks later old mid new same runs
runs_behind (Fresh size align ∷ asks) blocks later old mid new same (block, between, asked, rest) =
    (block, between, asked_behind (Fresh size align) old mid between (Placed block) same asked, rest)
runs_behind (Larger at size align ∷ asks) blocks later old mid new same (block, between, asked, rest) =
    (block, between, asked_behind (meant blocks (Larger at size align)) old mid between (Placed block) same asked, rest)

-- Asks that run after others run together with them.
pub runs_then : (asks more : List (Ask ℕ)) (blocks among later : List Block) (old mid new : View) → Runs asks blocks old among mid
    → Runs more among mid later new → Runs (asks ++ more) blocks old later new
unfolding Runs
runs_then [] more blocks among later old mid new (is, same) rest =
    runs_behind more blocks later old mid new same (subst (λ bs. Runs more bs mid later new) is rest)
runs_then (NoBlock ∷ asks) more blocks among later old mid new runs rest = runs_then asks more blocks among later old mid new runs rest
runs_then (Fresh size align ∷ asks) more blocks among later old mid new (block, between, asked, runs) rest =
    (block, between, asked, runs_then asks more (blocks ++ block ∷ []) among later between mid new runs rest)
runs_then (Larger at size align ∷ asks) more blocks among later old mid new (block, between, asked, runs) rest =
    (block, between, asked, runs_then asks more (blocks ++ block ∷ []) among later between mid new runs rest)

get_later : {X : Type 0} (xs ys : List X) (n : ℕ) → slice_get (xs ++ ys) (length xs + n) ≡ slice_get ys n
get_later {X = X} [] ys n = let e : length {A = X} [] + n ≡ n = grind arith in ap (slice_get ys) e
get_later (x ∷ xs) ys n =
    let e : length (x ∷ xs) + n ≡ suc (length xs + n) = grind arith in ap (slice_get (x ∷ xs ++ ys)) e ∙ get_later xs ys n

get_sooner : {X : Type 0} (xs ys : List X) (n : ℕ) (x : X) → slice_get xs n ≡ Some x
    → (slice_get (xs ++ ys) n ≡ Some x) × (take n (xs ++ ys) ≡ take n xs)
get_sooner [] ys n x is = absurd (let no = is in cc)
get_sooner (y ∷ xs) ys zero x is = (is, refl)
get_sooner (y ∷ xs) ys (suc n) x is = let more = get_sooner xs ys n x is in (more.0, ap (λ zs. y ∷ zs) more.1)

-- Asks that end after others have run end as those together.
pub ends_then : (asks more : List (Ask ℕ)) (blocks among : List Block) (old mid new : View) (answer : Answer)
    → Runs asks blocks old among mid → EndsAt more among mid new answer → EndsAt (asks ++ more) blocks old new answer
ends_then asks more blocks among old mid new answer runs ends = record {
  n = length asks + ends.n;
  ask = ends.ask;
  next = get_later asks more ends.n ∙ ends.next;
  later = ends.later;
  mid = ends.mid;
  ran = subst (λ zs. Runs zs blocks old ends.later ends.mid) (sym (take-append-add asks more ends.n))
      (runs_then asks (take ends.n more) blocks among ends.later old mid ends.mid runs ends.ran);
  asked = ends.asked;
}

-- Asks that end do so whatever would be asked for next.
pub ends_sooner : (asks more : List (Ask ℕ)) (blocks : List Block) (old new : View) (answer : Answer) → EndsAt asks blocks old new answer
    → EndsAt (asks ++ more) blocks old new answer
ends_sooner asks more blocks old new answer ends =
    let same = get_sooner asks more ends.n ends.ask ends.next in record {
      n = ends.n;
      ask = ends.ask;
      next = same.0;
      later = ends.later;
      mid = ends.mid;
      ran = subst (λ zs. Runs zs blocks old ends.later ends.mid) (sym same.1) ends.ran;
      asked = ends.asked;
    }
