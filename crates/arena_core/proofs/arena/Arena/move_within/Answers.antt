use Rattle.std.proofs.lemmas.Bool.Decides.{nat_tests}
use Rattle.std.proofs.Common.{ℕ, arith, List, take, drop}
use Rattle.arena_rules.specs.Lists.{splice}
use Rattle.arena_store.proofs.BytesLemmas.{length-bytes}
use Rattle.arena_core.proofs.BlockCallLemmas.{edits_by, writes_moved}
use Rattle.arena_core.proofs.arena.Arena.move_within.Goals as goal

pub edit-requires : goal.edit-requires
edit-requires g c = grind (arith, nat_tests, length-bytes)

pub returns : goal.returns
returns g c =
    writes_moved c.args.self.now c.edit.new.self c.args.block c.args.from c.args.to c.args.size c.requires.source c.requires.target
    (edits_by c.args.self.now c.edit.new.self c.args.block 0 c.args.block.size
    (λ (before : List ℕ). splice before c.args.to (take c.args.size (drop c.args.from before))) c.edit.ensures)
