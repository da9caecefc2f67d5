use Rattle.std.proofs.Common.{sym, ◌∙◌, arith}
use Rattle.tree_reader.proofs.ByteLemmas.{space_further, none_behind}
use Rattle.tree_reader.proofs.token.begin_at.Goals as goal

pub loop-here-preserved : goal.loop-here-preserved
loop-here-preserved c = record {
  behind = omega arith;
  within = omega arith;
  same = c.loop-here.invariant.same ∙ space_further c.args.src.now c.loop-here.here c.loop-here-test.true (sym c.if-not-is_space.ensures);
}

pub returns-clause-none : goal.returns-clause-none
returns-clause-none c = c.loop-here.invariant.same ∙ none_behind c.args.src.now c.loop-here.here c.loop-here-test.false
