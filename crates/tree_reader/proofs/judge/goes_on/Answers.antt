use Rattle.std.proofs.Common.{Ok, Err, arith}
use Rattle.tree_rules.specs.Reading.{state}
use Rattle.tree_reader.proofs.JudgeLemmas.{judged_next}
use Rattle.tree_reader.proofs.judge.goes_on.Goals as goal

pub returns-in-To : goal.returns-in-To
returns-in-To g c = (
  judged_next c.args.src.now c.args.at c.args.l (state g.M.InMode.mode c.args.opens.now) (Ok (state c.in-To.to c.judge.new.opens))
      c.requires c.in-To.ensures,
  omega (arith, c.requires.behind, c.requires.some),
  c.requires.within,
)

pub returns-in-Refused : goal.returns-in-Refused
returns-in-Refused g c =
    judged_next c.args.src.now c.args.at c.args.l (state g.M.InMode.mode c.args.opens.now) (Err c.in-Refused.refused) c.requires
    c.in-Refused.ensures
