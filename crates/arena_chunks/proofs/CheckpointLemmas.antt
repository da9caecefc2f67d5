-- Marks that an arena accepts, after calls on blocks.
use Rattle.std.proofs.lemmas.Bool.Decides.{nat_tests}
use Rattle.std.proofs.Common.{arith, ◌≡◌, ℕ, ap, sym, subst, refl, IsTrue, Some, List, eq-eqb}
use Rattle.std.proofs.lemmas.Bool.{and_from, and_parts}
use Rattle.arena_rules.specs.State.{State, IsValid}
use Rattle.arena_rules.specs.Back.{accepts, KeepsMark}
use Rattle.arena_rules.specs.Moves.{Resizing, dealloc}
use Rattle.arena_rules.proofs.BackLemmas.{own_accepted}
use Rattle.arena_rules.proofs.MarkLemmas.{still_keeps, alloc_keeps, resize_keeps, dealloc_keeps_mark}
use Rattle.arena_store.specs.Memory.{Memory}
use Rattle.arena_store.specs.Source.{View}
use Rattle.arena_core.specs.Answers.{Answer}
use Rattle.arena_core.specs.Answers.Answer.{Placed, Refused, Exhausted}
use Rattle.arena_core.specs.BlockCalls.{PlacesBlock, ResizesBlock, GivesBack, WritesBlock}
use Rattle.arena_core.specs.Checkpoints.{mark_at, checkpoint_of, is_accepted, KeepsCheckpoint}
use Rattle.arena_store.specs.declared.block.Block.{Block}
use Rattle.arena_core.specs.declared.rewind.Checkpoint.{Checkpoint}

pub checkpoint_own : (state : State) → IsValid state → IsTrue (is_accepted (checkpoint_of state) state)
checkpoint_own state valid = and_from _ _ (eq-eqb state.generation state.generation refl) (own_accepted state valid)

-- an accepted mark that the call keeps
by_mark : (c : Checkpoint) (old new : State) → IsTrue (is_accepted c old)
    → (IsTrue (accepts (mark_at c) old) → KeepsMark (mark_at c) old new) → KeepsCheckpoint c old new
by_mark c old new holds keeps = grind (arith, nat_tests, and_parts, and_from)

pub checkpoint_still : (c : Checkpoint) (old new : State) → IsTrue (is_accepted c old) → new ≡ old → KeepsCheckpoint c old new
checkpoint_still c old new holds same = subst (KeepsCheckpoint c old) (sym same) (by_mark c old old holds (still_keeps (mark_at c) old))

pub checkpoint_placed : (c : Checkpoint) (old new : View) (size align : ℕ) (answer : Answer) → IsTrue (is_accepted c old.memory.state)
    → PlacesBlock old new size align answer
    → KeepsCheckpoint c old.memory.state new.memory.state
checkpoint_placed c old new size align (Placed b) holds places =
    by_mark c old.memory.state new.memory.state holds
    (λ accepted. alloc_keeps (mark_at c) old.memory.state size align places.0
    (record { answer = Some b.addr; state = new.memory.state }) accepted places.1.outcome.step)
checkpoint_placed c old new size align (Refused k) holds places =
    checkpoint_still c old.memory.state new.memory.state holds (ap (λ (m : Memory). m.state) places.1.outcome.1.memory)
checkpoint_placed c old new size align Exhausted holds places =
    checkpoint_still c old.memory.state new.memory.state holds (ap (λ (v : View). v.memory.state) places.1.outcome.same)

pub checkpoint_resized : (c : Checkpoint) (way : Resizing) (old new : View) (block : Block) (size align : ℕ) (answer : Answer)
    → IsTrue (is_accepted c old.memory.state)
    → ResizesBlock way old new block size align answer → KeepsCheckpoint c old.memory.state new.memory.state
checkpoint_resized c way old new block size align (Placed b) holds resizes =
    by_mark c old.memory.state new.memory.state holds
    (λ accepted. resize_keeps (mark_at c) way old.memory.state block.addr size align resizes.0
    (record { answer = Some b.addr; state = new.memory.state }) accepted resizes.1.outcome.step)
checkpoint_resized c way old new block size align (Refused k) holds resizes =
    checkpoint_still c old.memory.state new.memory.state holds (ap (λ (m : Memory). m.state) resizes.1.outcome.1.memory)
checkpoint_resized c way old new block size align Exhausted holds resizes =
    checkpoint_still c old.memory.state new.memory.state holds (ap (λ (v : View). v.memory.state) resizes.1.outcome.1.same)

pub checkpoint_returned : (c : Checkpoint) (old new : Memory) (b : Block) → IsTrue (is_accepted c old.state) → GivesBack old new b
    → KeepsCheckpoint c old.state new.state
checkpoint_returned c old new b holds gives =
    let same : new.state ≡ dealloc old.state b.addr b.size = ap (λ (m : Memory). m.state) gives.memory in
    by_mark c old.state new.state holds
    (λ accepted. subst (KeepsMark (mark_at c) old.state) (sym same) (dealloc_keeps_mark (mark_at c) old.state b.addr b.size accepted))

pub checkpoint_written : (c : Checkpoint) (old new : Memory) (b : Block) (at : ℕ) (list : List ℕ) → IsTrue (is_accepted c old.state)
    → WritesBlock old new b at list
    → KeepsCheckpoint c old.state new.state
checkpoint_written c old new b at list holds writes = checkpoint_still c old.state new.state holds writes.state
