use Rattle.std.proofs.lemmas.Bool.Decides.{nat_tests}
use Rattle.std.proofs.Common.{arith, ◌≡◌, ℕ, List, Option}
use Rattle.std.specs.Prelude.{slice_get}
use Rattle.arena_rules.specs.Moves.{alloc}
use Rattle.arena_rules.proofs.RoundingLemmas.{layout_power}
use Rattle.arena_rules.proofs.AllocLemmas.{entry_of, valid_grown}
use Rattle.plain_machine.proofs.state.PlainState.alloc_in_new.Goals as goal

-- the entry of a list that equals what was asked
entry : (all items now : List (ℕ × ℕ)) (k : ℕ) (r o : Option (ℕ × ℕ)) → items ≡ all → now ≡ items → r ≡ slice_get now k → r ≡ o
    → slice_get all k ≡ o
entry all items now k r o asked same read is = grind (arith, nat_tests)

pub alloc_in_chunk-requires : goal.alloc_in_chunk-requires
alloc_in_chunk-requires c =
    let asked = c.in_ok-asked.ensures in
    let power = layout_power _ _ c.args.layout.valid in
    let at = entry _ _ _ c.args.refused _ _ asked.value c.deref.ensures.value c.entry_at.ensures c.in-Some.is in
    valid_grown c.args.self.now c.args.layout.size c.args.layout.align (c.in-Some.base, c.in-Some.size) asked.valid asked.growing power
    (entry_of c.args.self.now c.args.layout.size c.args.layout.align c.args.refused (c.in-Some.base, c.in-Some.size) asked.growing power at)

pub returns-in-Some-clause-step : goal.returns-in-Some-clause-step
unfolding alloc
returns-in-Some-clause-step c =
    let at = entry _ _ _ c.args.refused _ _ c.in_ok-asked.ensures.value c.deref.ensures.value c.entry_at.ensures c.in-Some.is in
    rw (c.requires, at) c.alloc_in_chunk.ensures.step
