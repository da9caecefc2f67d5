use Rattle.std.proofs.lemmas.Bool.Decides.{nat_tests}
use Rattle.std.proofs.Common.{arith, ◌≡◌, ℕ, Bool, Option, Some, sym, ◌∙◌, refl, eq-eqb}
use Rattle.std.specs.FinMap as finite
use Rattle.arena_rules.specs.State.{State}
use Rattle.arena_rules.specs.declared.place.Place.{Place}
use Rattle.arena_store.specs.Memory.{is_readable, block_at}
use Rattle.call_rules.specs.Machine.{Held, is_left}
use Rattle.arena_store.specs.declared.block.Block.{Block}
use Rattle.name_map.proofs.EntryLemmas.{remove_absent}
use Rattle.arena_runs.proofs.Log.{not_both, not_standing, standing}
use Rattle.arena_runs.proofs.names.keep.Goals as goal

pub returns-in_default-clause-answer : goal.returns-in_default-clause-answer
returns-in_default-clause-answer g c = rw (← c.get.ensures, c.in_default.is) refl

pub returns-in_default-clause-ended : goal.returns-in_default-clause-ended
returns-in_default-clause-ended g c = λ _. sym (remove_absent c.args.names.now c.args.name (sym c.get.ensures ∙ c.in_default.is))

-- what the arena returns for the block
has : (state : State) (names : Held) (name : ℕ) {p : Place} {b : Block} {o : Option Place} {r : Bool} → r ≡ is_readable state b
    → b ≡ block_at state.generation p → o ≡ finite.get names name → o ≡ Some p → r ≡ is_left state names name
has state names name result block found some = result ∙ rw (block, ← found, some, eq-eqb state.generation state.generation refl) refl

pub returns-then-not-is_held_place-clause-answer : goal.returns-then-not-is_held_place-clause-answer
returns-then-not-is_held_place-clause-answer g c = grind (arith, nat_tests, not_standing)

pub returns-then-not-is_held_place-clause-left : goal.returns-then-not-is_held_place-clause-left
returns-then-not-is_held_place-clause-left g c = grind (arith, nat_tests, not_both)

pub returns-clause-answer : goal.returns-clause-answer
returns-clause-answer g c = grind (arith, nat_tests, standing)

pub returns-clause-ended : goal.returns-clause-ended
returns-clause-ended g c = grind (arith, nat_tests, not_both)
