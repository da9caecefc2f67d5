-- What a call that resizes a name's block does to an arena and its names.
use Rattle.std.proofs.Common.{◌≡◌, ◌≢◌, ℕ, ◌+◌, ◌-◌, ◌<◌, ◌≤◌, ◌⊎◌, ◌++◌, min, length, take, refl, sym, ◌∙◌, arith, List, [], ◌∷◌, true, false, Option, Some, None, IsTrue, replicate, eqb-true, eq-eqb}
use Rattle.std.specs.Prelude.{◌==◌, ◌&&◌, nat_lt}
use Rattle.std.specs.Option.{is_none, option_and_then}
use Rattle.std.specs.FinMap as finite
use Rattle.std.proofs.lemmas.Bool.Decides.{nat_tests}
use Rattle.std.proofs.lemmas.List.{length-replicate}
use Rattle.arena_rules.specs.Rounding.{is_layout}
use Rattle.arena_rules.specs.Moves.{resize, grow, growing, shrink, shrinking}
use Rattle.arena_rules.specs.Moves.Resizing.{Anew}
use Rattle.arena_rules.specs.Statistics.{Statistics}
use Rattle.call_rules.specs.Counts.{call_statistics, is_placed}
use Rattle.call_rules.specs.Requests.{placed_anew, resized_anew, takes_memory}
use Rattle.call_rules.specs.Machine.{Machine, Held, Contents, Marks, at_name, gives_layout, step, refused_of}
use Rattle.arena_rules.specs.declared.place.Place.{Place}
use Rattle.call_rules.specs.declared.calls.Call.TheVariants.{Grow, Shrink}
use Rattle.call_rules.specs.declared.calls.Reply.{Reply}
use Rattle.call_rules.specs.declared.calls.Reply.TheVariants.{Placed, AllocErr}
use Rattle.arena_rules.proofs.RoundingLemmas.{layout_power}
use Rattle.arena_rules.proofs.MarkLemmas.{resize_keeps}
use Rattle.arena_rules.proofs.MoveLemmas.{grow_moved, shrink_moved}
use Rattle.arena_rules.proofs.PlacedLemmas.{resize_at_cursor, grow_at_cursor}
use Rattle.arena_store.specs.Memory.{Memory, Writes, image, bytes_from, block_at}
use Rattle.arena_store.specs.Source.{Source, view}
use Rattle.arena_core.specs.Answers.Answer.{Placed as PlacedAt, Refused}
use Rattle.arena_core.specs.BlockCalls.{ResizesAfter, WritesBlock}
use Rattle.arena_runs.specs.Runs.{HoldsBytes}
use Rattle.arena_runs.specs.Marks.{Noted, named, AreWithin, IsAtCursor}
use Rattle.arena_runs.specs.Serving.{machine_of, Holds, Serves, ServesNoting, resizing, is_wrong, way_of, ResizesFilling}
use Rattle.arena_store.specs.declared.block.Block.{Block}
use Rattle.arena_runs.specs.declared.marks.Mark.{Mark}
use Rattle.arena_runs.proofs.Log.{notes_still, inserted_at_cursor, inserted_within, noting, not_both}
use Rattle.arena_core.proofs.FrameLemmas.{apart_unpadded}
use Rattle.arena_core.proofs.WrittenLemmas.{bytes_filled, take_bytes}
use Rattle.arena_runs.proofs.Serving.{serves_placed, asks_none, serves_still, found_at}
use Rattle.arena_runs.proofs.Change.{change_written, change_placed}

serves_grow : (old mid new : Memory) (names : Held) (name size align fill k : ℕ) (a : Place) (block : Block) (before later : Source)
    → Holds old.state names
    → finite.get names name ≡ Some a → true ≡ is_layout size align → a.size ≤ size
    → ResizesAfter (growing old.state a.addr a.size a.align size align) (view old before) (view mid later)
    (block_at old.state.generation a) size align k (PlacedAt block)
    → WritesBlock mid new block a.size (replicate (block.size - a.size) fill)
    → Serves (Grow name size align fill) (Placed block.addr k) (view old before) (view new later) names
    (finite.insert names name (record { addr = block.addr; size = size; align = align }))
    × IsAtCursor new.state names (finite.insert names name (record { addr = block.addr; size = size; align = align })) name
unfolding step placed_anew grow
serves_grow old mid new names name size align fill k a block before later holds found good larger resizes wrote =
    let resized = resizes.outcome in
    let p : ℕ = block.addr in
    let b : Place = record { addr = p; size = size; align = align } in
    let range : nat_lt size a.size ≡ false = grind (arith, nat_tests) in
    let same = wrote.state in
    let all : min a.size size ≡ a.size = omega arith in
    let kept : bytes_from (image mid) p a.size ≡ bytes_from (image old) a.addr a.size = rw all at resized.bytes in
    let writes : Writes mid new (p + a.size) (replicate (size - a.size) fill) = rw resized.of_layout.of_size at wrote.bytes in
    let sized = length-replicate (size - a.size) fill in
    let moved = grow_moved old.state a size align k (record { answer = Some p; state = mid.state }) holds.valid (holds.each name a found)
    (layout_power size align (sym good)) resized.step in
    let served = serves_placed (Grow name size align fill) k old new names name a b before later holds
    (change_written old mid new names _ name a b a.size (replicate (size - a.size) fill) holds.valid
    (change_placed old mid names name size align p a (block_at old.state.generation a ∷ []) (block ∷ []) holds (λ filled. found)
    good moved resizes.valid.exit resized.frame (λ addr n beside. (apart_unpadded old.state a.addr a.size addr n holds.valid beside, tt))
    (λ mark accepted. resize_keeps mark (growing old.state a.addr a.size a.align size align) old.state a.addr size align k
    (record { answer = Some p; state = mid.state }) accepted resized.step))
    (omega arith) same writes)
    (λ marks bytes held. found_at old names marks bytes name k a _ held found
    ∙ rw (← good, range, resized.step, bytes_filled (image mid) (image new) p size a.size fill larger writes, kept, same) refl)
    (record {
      asked = λ marks bytes. rw (found, ← good, range) resized.asked;
      statistics = λ marks bytes. wrote.statistics
          ∙ rw found resized.statistics;
    }) in (
      served,
      inserted_at_cursor new.state names name b served.holds
          (rw same (grow_at_cursor old.state a.addr a.size a.align size align k
          (record { answer = Some p; state = mid.state }) resized.step p refl)),
    )

serves_shrink : (old new : Memory) (names : Held) (name size align k : ℕ) (a : Place) (block : Block) (before later : Source)
    → Holds old.state names
    → finite.get names name ≡ Some a → true ≡ is_layout size align → size ≤ a.size
    → ResizesAfter (shrinking old.state a.addr a.size a.align size align) (view old before) (view new later)
    (block_at old.state.generation a) size align k (PlacedAt block)
    → Serves (Shrink name size align) (Placed block.addr k) (view old before) (view new later) names
    (finite.insert names name (record { addr = block.addr; size = size; align = align }))
    × (block.addr ≢ a.addr → IsAtCursor new.state names
    (finite.insert names name (record { addr = block.addr; size = size; align = align })) name)
unfolding step placed_anew shrink
serves_shrink old new names name size align k a block before later holds found good smaller resizes =
    let resized = resizes.outcome in
    let p : ℕ = block.addr in
    let b : Place = record { addr = p; size = size; align = align } in
    let range : nat_lt a.size size ≡ false = grind (arith, nat_tests) in
    let all : min a.size size ≡ size = omega arith in
    let kept : bytes_from (image new) p size ≡ bytes_from (image old) a.addr size = rw all at resized.bytes in
    let moved = shrink_moved old.state a size align k (record { answer = Some p; state = new.state }) holds.valid
    (holds.each name a found) smaller (layout_power size align (sym good)) resized.step in
    let served = serves_placed (Shrink name size align) k old new names name a b before later holds
    (change_placed old new names name size align p a (block_at old.state.generation a ∷ []) (block ∷ []) holds (λ filled. found)
    good moved resizes.valid.exit resized.frame (λ addr n beside. (apart_unpadded old.state a.addr a.size addr n holds.valid beside, tt))
    (λ mark accepted. resize_keeps mark (shrinking old.state a.addr a.size a.align size align) old.state a.addr size align k
    (record { answer = Some p; state = new.state }) accepted resized.step))
    (λ marks bytes held. found_at old names marks bytes name k a _ held found
    ∙ rw (← good, range, resized.step, kept, take_bytes (image old) a.addr a.size size smaller) refl)
    (record { asked = λ marks b. rw (found, ← good, range) resized.asked; statistics = λ marks b. rw found resized.statistics }) in (
      served,
      λ moved. inserted_at_cursor new.state names name b served.holds
          (resize_at_cursor (shrinking old.state a.addr a.size a.align size align) old.state a.addr size align k p
          (record { answer = Some p; state = new.state }) resized.step refl moved),
    )

-- ---- Either call

-- the bytes of a block that is resized
abbrev given : Option ℕ → ℕ → List ℕ → ℕ → List ℕ
given (Some fill) had bytes size = bytes ++ replicate (size - had) fill
given None had bytes size = take size bytes

pub resizing_step : (fill : Option ℕ) (name size align k : ℕ) (m : Machine) → step (resizing fill name size align) k m
    ≡ at_name m name k (λ place bytes. gives_layout m k name size align (is_wrong fill place.size size) (given fill place.size bytes size)
    (resize (way_of fill m.state place size align) m.state place.addr size align k))
unfolding step grow shrink
resizing_step fill name size align k m = grind (arith, nat_tests)

pub resizing_anew : (fill : Option ℕ) (name size align : ℕ) (m : Machine) → placed_anew (resizing fill name size align) m
    ≡ option_and_then {U = ℕ × ℕ} (λ (p : Place). resized_anew (way_of fill m.state p size align) size align (is_wrong fill p.size size))
    (finite.get m.held name)
unfolding placed_anew
resizing_anew fill name size align m = grind (arith, nat_tests)

-- a call that places nothing counts nothing
pub resizing_counts : (fill : Option ℕ) (name size align : ℕ) (reply : Reply) (m : Machine) (s : Statistics) → is_placed reply ≡ false
    → call_statistics (resizing fill name size align) reply m s ≡ s
resizing_counts fill name size align reply m s none = grind (arith, nat_tests)

-- a call that is refused because of its arguments
pub resizing_still : (fill : Option ℕ) (reply : Reply) (memory : Memory) (names : Held) (noted : Noted) (name size align : ℕ)
    (source : Source) → Holds memory.state names
    → refused_of reply ≡ 0 → is_placed reply ≡ false
    → ((marks : Marks) (bytes : Contents) → HoldsBytes memory names bytes
    → at_name (machine_of memory names marks bytes) name 0 (λ place list.
    gives_layout (machine_of memory names marks bytes) 0 name size align (is_wrong fill place.size size) (given fill place.size list size)
    (resize (way_of fill memory.state place size align) memory.state place.addr size align 0))
    ≡ Some (reply, machine_of memory names marks bytes))
    → option_and_then {U = ℕ × ℕ} (λ (p : Place). resized_anew (way_of fill memory.state p size align) size align
    (is_wrong fill p.size size)) (finite.get names name) ≡ None
    → ServesNoting (resizing fill name size align) reply (view memory source) (view memory source) names names noted noted
resizing_still fill reply memory names noted name size align source holds none placed steps anew = (
  serves_still (resizing fill name size align) reply memory names source source holds
      (λ marks bytes held. rw none (resizing_step fill name size align 0 (machine_of memory names marks bytes) ∙ steps marks bytes held))
      (asks_none (resizing fill name size align) reply memory memory names source none refl
      (λ marks bytes. resizing_anew fill name size align (machine_of memory names marks bytes) ∙ anew)
      (λ marks bytes. resizing_counts fill name size align reply (machine_of memory names marks bytes) memory.statistics placed)),
  notes_still memory.state names names noted (λ q p at. at),
)

-- memory may run out if the block is allocated again, or if there is a mark
pub resizing_takes : (fill : Option ℕ) (memory : Memory) (names : Held) (marks : List Mark) (bytes : Contents) (name size align : ℕ)
    (a : Place)
    → finite.get names name ≡ Some a → true ≡ is_layout size align → is_wrong fill a.size size ≡ false
    → (way_of fill memory.state a size align ≡ Anew) ⊎ (0 < length marks)
    → IsTrue (takes_memory (resizing fill name size align) (machine_of memory names (named marks) bytes))
unfolding placed_anew
resizing_takes fill memory names marks bytes name size align a found good right h = grind (arith, nat_tests, noting)

-- the block was given the layout
pub serves_resized : (fill : Option ℕ) (old new : Memory) (names : Held) (name size align k : ℕ) (a : Place) (block : Block)
    (before later : Source) → Holds old.state names
    → finite.get names name ≡ Some a → true ≡ is_layout size align → is_wrong fill a.size size ≡ false
    → ResizesFilling fill (view old before) (view new later) a size align k (PlacedAt block)
    → Serves (resizing fill name size align) (Placed block.addr k) (view old before) (view new later) names
    (finite.insert names name (record { addr = block.addr; size = size; align = align }))
    × ((is_none fill && (block.addr == a.addr)) ≡ true
    → AreWithin names (finite.insert names name (record { addr = block.addr; size = size; align = align })))
    × ((is_none fill && (block.addr == a.addr)) ≡ false
    → IsAtCursor new.state names (finite.insert names name (record { addr = block.addr; size = size; align = align })) name)
serves_resized (Some fill) old new names name size align k a block before later holds found good right filling =
    let served = serves_grow old filling.mid new names name size align fill k a block before later holds found good
    (grind (arith, nat_tests, right)) filling.resizes filling.fills in
    (served.0, (λ stayed. absurd (cc)), (λ moved. served.1))
serves_resized None old new names name size align k a block before later holds found good right filling =
    let smaller : size ≤ a.size = grind (arith, nat_tests, right) in
    let served = serves_shrink old new names name size align k a block before later holds found good smaller
    (rw (← filling.fills) at filling.resizes) in (
      served.0,
      (λ stayed. inserted_within names name a _ found (sym (eqb-true _ _ stayed)) smaller),
      (λ moved. served.1 (λ same. not_both (block.addr == a.addr) (eq-eqb _ _ same) moved)),
    )

-- there was no place for it
pub serves_unresized : (fill : Option ℕ) (old new : Memory) (names : Held) (name size align k refused : ℕ) (a : Place)
    (before later : Source) → Holds old.state names
    → finite.get names name ≡ Some a → true ≡ is_layout size align → is_wrong fill a.size size ≡ false
    → ResizesFilling fill (view old before) (view new later) a size align k (Refused refused)
    → Serves (resizing fill name size align) (AllocErr refused) (view old before) (view new later) names names
serves_unresized fill old new names name size align k refused a before later holds found good right filling =
    let failed = filling.resizes.outcome.1 in
    let same : new ≡ old = filling.fills ∙ failed.memory in
    let told = filling.resizes.outcome.0 in
    rw (same, told) (serves_still (resizing fill name size align) (AllocErr k) old names before later holds
    (λ marks bytes held. resizing_step fill name size align k (machine_of old names marks bytes)
    ∙ found_at old names marks bytes name k a _ held found ∙ rw (← good, right, failed.step) refl)
    (record {
      asked = λ marks bytes. rw (
        resizing_anew fill name size align (machine_of old names marks bytes),
        found,
        ← good,
        right,
      ) failed.asked;
      statistics = λ marks bytes.
          sym (resizing_counts fill name size align (AllocErr k) (machine_of old names marks bytes) old.statistics refl);
    }))
