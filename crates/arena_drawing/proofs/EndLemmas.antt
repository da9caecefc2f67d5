-- A run whose picture was drawn, and one after which memory runs out.
use Rattle.std.proofs.Common.{◌≡◌, ℕ, ◌∙◌, ◌<◌, List, length, take, take_all, Some, None, subst, sym, arith}
use Rattle.std.specs.FinMap as finite
use Rattle.std.proofs.lemmas.Option.{none-some, slice_get_past}
use Rattle.arena_rules.specs.State.{State, IsValid}
use Rattle.call_rules.specs.Machine.{run, told}
use Rattle.arena_rules.specs.declared.place.Place.{Place}
use Rattle.call_rules.specs.declared.calls.Call.{Call}
use Rattle.call_rules.specs.declared.calls.Reply.{Reply}
use Rattle.arena_chunks.specs.Source.{View}
use Rattle.arena_chunks.specs.Memory.{block_at}
use Rattle.arena_runs.specs.Runs.{Runs, RunsFirst, RunLeaves}
use Rattle.arena_store.specs.declared.block.Block.{Block}
use Rattle.arena_calls.specs.Ends.{Outside, IsWritten}
use Rattle.arena_drawing.specs.Ends.{picture_of, HasPlace, RunsToPicture}
use Rattle.arena_drawing.proofs.PlaceLemmas.{stands_in, range_used}

-- each block of some bytes that a name holds has its place
pub placed : (entry exit : View) (calls : List Call) (replies : List Reply) (held : List (ℕ × Block))
    → (runs : Runs entry exit calls replies held) (name : ℕ) (p : Place) → finite.get runs.last.held name ≡ Some p → 0 < p.size
    → HasPlace exit.memory.state (block_at runs.last.state.generation p)
placed entry exit calls replies held runs name p at some =
    let last = runs.last.state in
    let block = block_at last.generation p in
    let valid : IsValid last = subst IsValid runs.stands.state runs.stands.valid in
    subst (λ (state : State). HasPlace state block) (sym runs.stands.state) (stands_in last.min_align 0 last.chunks block valid.chunks some
    (range_used last p some (runs.stands.sound.used name p at)))

-- a run, and its picture
pub drawn : (old new : Outside) (calls : List Call) (replies : List Reply) (held : List (ℕ × Block))
    (Is : IsWritten) (text : List ℕ) → Runs old.arena new.arena calls replies held
    → Is old.written new.written text → text ≡ picture_of new.arena.memory.state held → RunsToPicture old new calls Is
drawn old new calls replies held Is text runs wrote is = record {
  replies = replies;
  held = held;
  runs = runs;
  written = subst (λ (t : List ℕ). Is old.written new.written t) is wrote;
  placed = placed old.arena new.arena calls replies held runs;
}

-- all calls of a run are the first ones of them
pub first_all : (entry exit : View) (calls : List Call) (replies : List Reply) (held : List (ℕ × Block))
    → Runs entry exit calls replies held → RunsFirst entry exit calls (length calls)
first_all entry exit calls replies held runs =
    let all : take (length calls) calls ≡ calls = take_all (length calls) calls (omega arith) in
    record {
      within = omega arith;
      replies = replies;
      last = runs.last;
      ran = subst (λ (cs : List Call). run entry.memory.state cs (told replies) ≡ Some (replies, runs.last)) (sym all) runs.ran;
      stands = runs.stands;
      leaves = subst (λ (cs : List Call). RunLeaves entry exit cs (told replies)) (sym all) runs.leaves;
      stops = λ call some at. absurd (none-some call (sym (slice_get_past calls (length calls) (omega arith)) ∙ at));
    }
