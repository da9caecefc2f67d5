-- What a call on a block asks for, and why it is refused.
use Rattle.std.proofs.Common.{◌≡◌, ℕ, ◌+◌, ◌-◌, ◌*◌, ◌%◌, ◌^◌, ◌<◌, ◌≤◌, ap, sym, refl, subst, arith, IsTrue, Some, None, Option, length, inl, inr, true, false}
use Rattle.std.specs.Prelude.{nat_le, nat_lt, ◌==◌, ◌&&◌, Bool, if◌then◌else◌}
use Rattle.std.specs.List.{AllByRecursion}
use Rattle.std.proofs.lemmas.Bool.{cases_Bool, cases_lt}
use Rattle.std.proofs.lemmas.Bool.Decides.{nat_tests}
use Rattle.std.proofs.lemmas.Option.{cond_some}
use Rattle.std.proofs.lemmas.List.{length-map, length-take}
use Rattle.arena_rules.specs.Rounding.{up, is_layout, is_power}
use Rattle.arena_rules.specs.State.{State, IsValid, top_of, cursor_of, newest_size, used_bytes, allocated_bytes}
use Rattle.arena_rules.specs.Search.{place, asked, requests, alloc_requests}
use Rattle.arena_rules.specs.Moves.{Outcome, Resizing, alloc, resize, growing, growth, down_to, shrinking, shrink_step, fails, resize_requests}
use Rattle.arena_rules.specs.Moves.Resizing.{Stays, Moves, Anew, Refused as NotGrown}
use Rattle.arena_rules.specs.Used.{unit_of}
use Rattle.arena_rules.specs.Asking.{IsRequestWithin, HasGrown, most_asked}
use Rattle.arena_rules.proofs.RoundingLemmas.{layout_power, up_close, power_positive, min_align_positive, min_align_le}
use Rattle.arena_rules.proofs.UsedResizeLemmas.{resize_stays, resize_moves, resize_refused}
use Rattle.arena_rules.proofs.AskedSizeLemmas.{all_requests, newest_short, one_chunk, asks_some}
use Rattle.arena_rules.proofs.AnySizeLemmas.{asks_any}
use Rattle.arena_rules.proofs.GrownLemmas.{grown_not, cursor_grown, dealloc_grown, alloc_grown, alloc_failed}
use Rattle.arena_rules.proofs.AskingLemmas.{asks_nothing, asks_by, refused_by}
use Rattle.arena_store.specs.Memory.{Memory}
use Rattle.arena_store.specs.Source.{View, IsAsked}
use Rattle.arena_chunks.specs.Asking.{AsksWithin, IsRefusedBySource, IsFull}
use Rattle.arena_core.specs.Answers.{Answer}
use Rattle.arena_core.specs.Answers.Answer.{Placed, Refused, Exhausted}
use Rattle.arena_core.specs.BlockCalls.{PlacesBlock, ResizesBlock, GrowsBlock, ShrinksBlock, GivesBack, growing_of}
use Rattle.arena_store.specs.declared.block.Block.{Block}
use Rattle.arena_chunks.proofs.UsedByCallLemmas.{anew_most, stays_used, grown_most}

-- ---- What a call asks for

-- one that moves no cursor and asks for nothing
pub asks_same : (bytes : ℕ) (old new : View) → new.memory.state ≡ old.memory.state → new.source ≡ old.source → AsksWithin bytes old new
asks_same bytes old new state source = rw (state, source) (asks_nothing bytes old.memory.state old.source)

same_grown : (old new : Memory) → new ≡ old → HasGrown old.state new.state
same_grown old new same = subst (λ (m : Memory). HasGrown old.state m.state) (sym same) (grown_not old.state)

same_asks : (bytes : ℕ) (old new : View) → new ≡ old → AsksWithin bytes old new
same_asks bytes old new same = subst (λ (v : View). AsksWithin bytes old v) (sym same) (asks_nothing bytes old.memory.state old.source)

-- A block that is placed.
pub asks_placed : (bytes : ℕ) (old new : View) (size align : ℕ) (answer : Answer) → IsTrue (is_layout size align) → align ≤ 16
    → used_bytes old.memory.state + size + (unit_of old.memory.state align - 1) ≤ bytes → PlacesBlock old new size align answer
    → AsksWithin bytes old new
asks_placed bytes old new size align (Placed b) layout small fits places =
    let s = places.1.outcome in
    let valid = places.1.valid.entry in
    asks_by bytes places.0 (alloc_requests old.memory.state size align places.0)
    old.memory.state new.memory.state old.source new.source s.asked
    (all_requests old.memory.state size align places.0 bytes valid small fits)
    (alloc_grown old.memory.state size align places.0 (record { answer = Some b.addr; state = new.memory.state }) valid
    (layout_power size align layout) small s.step)
asks_placed bytes old new size align (Refused k) layout small fits places =
    let s = places.1.outcome.1 in
    asks_by bytes places.0 (alloc_requests old.memory.state size align places.0)
    old.memory.state new.memory.state old.source new.source s.asked
    (all_requests old.memory.state size align places.0 bytes places.1.valid.entry small fits) (same_grown old.memory new.memory s.memory)
asks_placed bytes old new size align Exhausted layout small fits places = same_asks bytes old new places.1.outcome.same

-- A block that is resized.
module _ (bytes : ℕ) (old new : View) (block : Block) (size align : ℕ) (layout : IsTrue (is_layout size align)) (small : align ≤ 16)
    (fits : used_bytes old.memory.state + size + (unit_of old.memory.state align - 1) ≤ bytes) where
  way_requests : (way : Resizing) (k : ℕ) → IsValid old.memory.state
      → AllByRecursion (IsRequestWithin (most_asked bytes)) (resize_requests way old.memory.state size align k)
  way_requests way k valid = grind (arith, nat_tests, all_requests)

  way_grown : (way : Resizing) (k : ℕ) (outcome : Outcome) → IsValid old.memory.state
      → resize way old.memory.state block.addr size align k ≡ Some outcome → HasGrown old.memory.state outcome.state
  way_grown way k outcome valid step =
      grind (arith, nat_tests, resize_stays, grown_not, resize_moves, cursor_grown, alloc_grown, layout_power, resize_refused)

  pub asks_resized : (way : Resizing) (answer : Answer) → ResizesBlock way old new block size align answer → AsksWithin bytes old new
  asks_resized way (Placed b) resizes =
      let s = resizes.1.outcome in
      let valid = resizes.1.valid.entry in
      asks_by bytes resizes.0 (resize_requests way old.memory.state size align resizes.0)
      old.memory.state new.memory.state old.source new.source
      s.asked (way_requests way resizes.0 valid)
      (way_grown way resizes.0 (record { answer = Some b.addr; state = new.memory.state }) valid s.step)
  asks_resized way (Refused k) resizes =
      let s = resizes.1.outcome.1 in
      asks_by bytes resizes.0 (resize_requests way old.memory.state size align resizes.0)
      old.memory.state new.memory.state old.source new.source
      s.asked (way_requests way resizes.0 resizes.1.valid.entry) (same_grown old.memory new.memory s.memory)
  asks_resized way Exhausted resizes = same_asks bytes old new resizes.1.outcome.1.same

-- A block that is given back.
pub asks_given_back : (bytes : ℕ) (old new : View) (b : Block) → GivesBack old.memory new.memory b → new.source ≡ old.source
    → AsksWithin bytes old new
asks_given_back bytes old new b gives source = grind (arith, nat_tests, asks_nothing, dealloc_grown)

-- ---- Calls that are refused

-- a block was to be allocated, and there was no place for it
abbrev IsUnplaced : View → View → ℕ → ℕ → Type 0
IsUnplaced old new size align = (k : ℕ) × (alloc old.memory.state size align k ≡ Some (record { answer = None; state = old.memory.state }))
    × IsAsked old.source new.source k (alloc_requests old.memory.state size align k) × IsValid old.memory.state

-- If some chunk may be asked for, the source has refused.
alloc_starved : (old new : View) (size align : ℕ) → IsTrue (is_layout size align) → 0 < length (asked old.memory.state size align)
    → IsUnplaced old new size align → IsRefusedBySource old new
unfolding requests
alloc_starved old new size align layout some (k, step, asked, valid) =
    let failed = alloc_failed old.memory.state old.memory.state size align k valid (layout_power size align layout) step in
    refused_by k (alloc_requests old.memory.state size align k) old.source new.source asked (omega (arith, failed.all, some))
    (rw (failed.none, failed.all) (simp (length-map, length-take) (omega arith)))

starved_few : (old new : View) (size align : ℕ) → IsTrue (is_layout size align) → align ≤ 16 → size ≤ 2 ^ 60
    → old.memory.state.is_growing ≡ true → top_of old.memory.state.chunks ≤ 2 ^ 63 + 2 ^ 62 → IsUnplaced old new size align
    → IsRefusedBySource old new
starved_few old new size align layout small bounded growing low unplaced =
    alloc_starved old new size align layout (asks_some old.memory.state size align unplaced.3 growing small bounded low) unplaced

-- An arena that doesn't grow has fewer bytes than are in use and requested.
alloc_full : (old new : View) (size align : ℕ) → old.memory.state.is_growing ≡ false → IsTrue (is_layout size align)
    → IsUnplaced old new size align → IsFull (used_bytes old.memory.state + size + (unit_of old.memory.state align - 1)) old
alloc_full old new size align still layout h = grind (arith, nat_tests, alloc_failed, layout_power, newest_short, one_chunk)

-- A block that is placed.
placed_none : (old new : View) (size align k : ℕ) → PlacesBlock old new size align (Refused k) → IsUnplaced old new size align
placed_none old new size align k places = grind (arith, nat_tests)

pub placed_starved : (old new : View) (size align k : ℕ) → IsTrue (is_layout size align) → align ≤ 16 → size ≤ 2 ^ 60
    → old.memory.state.is_growing ≡ true → PlacesBlock old new size align (Refused k)
    → top_of old.memory.state.chunks ≤ 2 ^ 63 + 2 ^ 62 → IsRefusedBySource old new
placed_starved old new size align k layout small bounded growing places low =
    starved_few old new size align layout small bounded growing low (placed_none old new size align k places)

pub placed_starved_any : (old new : View) (size align k : ℕ) → IsTrue (is_layout size align) → align ≤ 16 → size + 64 ≤ 2 ^ 63
    → old.memory.state.is_growing ≡ true → PlacesBlock old new size align (Refused k)
    → allocated_bytes old.memory.state < 2 ^ 60 → top_of old.memory.state.chunks ≤ 2 ^ 62 + 2 ^ 61 → IsRefusedBySource old new
placed_starved_any old new size align k layout small fits growing places few low =
    alloc_starved old new size align layout (asks_any old.memory.state size align places.1.valid.entry growing small fits few low)
    (placed_none old new size align k places)

pub placed_full : (old new : View) (size align k : ℕ) → IsTrue (is_layout size align) → old.memory.state.is_growing ≡ false
    → PlacesBlock old new size align (Refused k) → IsFull (used_bytes old.memory.state + size + (unit_of old.memory.state align - 1)) old
placed_full old new size align k layout still places = alloc_full old new size align still layout (placed_none old new size align k places)

-- ---- A block that is resized

-- If there is no place for a block, it was to be allocated again, unless it is refused for its size.
refused_anew : (way : Resizing) (old new : View) (block : Block) (size align k : ℕ) → (way ≡ NotGrown → ⊥)
    → ResizesBlock way old new block size align (Refused k) → IsUnplaced old new size align
refused_anew way old new block size align k fits resizes = grind (arith, nat_tests, cond_some)

-- A block whose alignment is a power of two and that grows to this size is never refused for its size.
never_refused : (state : State) (p old_size old_align size align : ℕ) → IsValid state → IsTrue (is_power old_align) → old_align ≤ 16
    → size + 31 ≤ 2 ^ 63
    → growing state p old_size old_align size align ≡ NotGrown → ⊥
never_refused state p old_size old_align size align valid power small bounded is =
    elim (cases_Bool (nat_le align old_align && p == cursor_of state.chunks)) [
      | inl here ↦
          let close = up_close size state.min_align (min_align_positive state.min_align valid.min_align) in
          let least = min_align_le state.min_align valid.min_align in
          let padded = up_close (growth state old_size size) old_align (power_positive old_align power) in
          let test : nat_le (up (growth state old_size size) old_align) (2 ^ 63 - 1) ≡ true = grind (arith, nat_tests) in
          let layout : is_layout (growth state old_size size) old_align ≡ true = rw (power, test) refl in
          placed_down (place state (growth state old_size size) old_align) (rw (here, layout) at is)
      | inr away ↦ absurd (let no : Anew ≡ NotGrown = rw away at is in cc)
    ]
  where
    placed_down : (o : Option ℕ) → down_to o ≡ NotGrown → ⊥
    placed_down (Some q) same = cc
    placed_down None same = cc

grown_anew : (old new : View) (block : Block) (size align k : ℕ) → IsTrue (is_power block.align) → block.align ≤ 16 → size + 31 ≤ 2 ^ 63
    → GrowsBlock old new block size align (Refused k) → IsUnplaced old new size align
grown_anew old new block size align k power low_align bounded grows = grind (arith, nat_tests, refused_anew, never_refused)

pub grown_starved : (old new : View) (block : Block) (size align k : ℕ) → IsTrue (is_layout size align) → align ≤ 16
    → IsTrue (is_power block.align) → block.align ≤ 16 → size ≤ 2 ^ 60 → old.memory.state.is_growing ≡ true
    → GrowsBlock old new block size align (Refused k) → top_of old.memory.state.chunks ≤ 2 ^ 63 + 2 ^ 62 → IsRefusedBySource old new
grown_starved old new block size align k layout small power low_align bounded growing grows low =
    starved_few old new size align layout small bounded growing low
    (grown_anew old new block size align k power low_align (omega arith) grows)

-- no chunk has as many bytes as a size that is refused at once
chunk_below : (state : State) → IsValid state → newest_size state.chunks + 64 ≤ 2 ^ 63
chunk_below state valid = grind (arith, valid.chunks)

pub grown_full : (old new : View) (block : Block) (size align k : ℕ) → IsTrue (is_layout size align) → IsTrue (is_power block.align)
    → block.align ≤ 16 → old.memory.state.is_growing ≡ false → GrowsBlock old new block size align (Refused k)
    → IsFull (used_bytes old.memory.state + size + (unit_of old.memory.state align - 1)) old
grown_full old new block size align k layout power low_align still grows = elim (cases_lt (size + 30) (2 ^ 63)) [
  | inl bounded ↦ alloc_full old new size align still layout
      (grown_anew old new block size align k power low_align (omega arith) grows)
  | inr large ↦
      let valid = grows.1.valid.entry in
      record { still = still; short = omega (arith, large, chunk_below old.memory.state valid, one_chunk old.memory.state valid still) }
]

-- A block that shrinks is never refused for its size.
shrinks_never : (state : State) (p old_size old_align size align : ℕ) → shrinking state p old_size old_align size align ≡ NotGrown → ⊥
shrinks_never state p old_size old_align size align =
    by (nat_lt old_align align) (p % align == 0)
    (p == cursor_of state.chunks && nat_le old_size (2 * shrink_step state old_size size align))
    (p + shrink_step state old_size size align)
  where
    by : (rises suits half : Bool) (q : ℕ)
        → (if rises then (if suits then Stays else Anew) else (if half then Moves q else Stays)) ≡ NotGrown → ⊥
    by true true half q same = cc
    by true false half q same = cc
    by false suits true q same = cc
    by false suits false q same = cc

shrunk_anew : (old new : View) (block : Block) (size align k : ℕ) → ShrinksBlock old new block size align (Refused k)
    → IsUnplaced old new size align
shrunk_anew old new block size align k = grind (arith, nat_tests, refused_anew, shrinks_never)

pub shrunk_starved : (old new : View) (block : Block) (size align k : ℕ) → IsTrue (is_layout size align) → align ≤ 16 → size ≤ 2 ^ 60
    → old.memory.state.is_growing ≡ true → ShrinksBlock old new block size align (Refused k)
    → top_of old.memory.state.chunks ≤ 2 ^ 63 + 2 ^ 62 → IsRefusedBySource old new
shrunk_starved old new block size align k layout small bounded growing shrinks low =
    starved_few old new size align layout small bounded growing low (shrunk_anew old new block size align k shrinks)

pub shrunk_full : (old new : View) (block : Block) (size align k : ℕ) → IsTrue (is_layout size align)
    → old.memory.state.is_growing ≡ false → ShrinksBlock old new block size align (Refused k)
    → IsFull (used_bytes old.memory.state + size + (unit_of old.memory.state align - 1)) old
shrunk_full old new block size align k layout still shrinks =
    alloc_full old new size align still layout (shrunk_anew old new block size align k shrinks)

-- A block that grows brings at most its new size into use, with the padding of its end and of its place.
pub grown_used : (old new : View) (block b : Block) (size align : ℕ) → IsTrue (is_layout size align)
    → block.align ≤ align → GrowsBlock old new block size align (Placed b)
    → used_bytes new.memory.state ≤ used_bytes old.memory.state + size + (old.memory.state.min_align - 1)
    + (unit_of old.memory.state align - 1)
grown_used old new block b size align layout low grows = go (growing_of old.memory block size align) refl grows
  where
    go : (way : Resizing) → growing_of old.memory block size align ≡ way → ResizesBlock way old new block size align (Placed b)
        → used_bytes new.memory.state ≤ used_bytes old.memory.state + size + (old.memory.state.min_align - 1)
        + (unit_of old.memory.state align - 1)
    go Anew is resizes = omega (arith, anew_most old new block b size align layout resizes)
    go Stays is resizes = omega (arith, stays_used old new block b size align resizes)
    go (Moves q) is resizes = omega (arith, grown_most old new block b size align q grows is)
    go NotGrown is resizes = absurd (let same : None ≡ Some b.addr = ap (λ (o : Outcome). o.answer)
        (cond_some (resizes.0 == 0) (fails old.memory.state) _ resizes.1.outcome.step).1 in cc)
