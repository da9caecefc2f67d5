use Rattle.std.proofs.Common.{inl, inr}
use Rattle.std.proofs.lemmas.Result.{err_from_is_err_and}
use Rattle.example_blocks.proofs.ChainLemmas.{made}
use Rattle.example_blocks.proofs.linked.Chain.make.Goals as goal

pub returns-in_err-second-clause-calls : goal.returns-in_err-second-clause-calls
returns-in_err-second-clause-calls g c =
    let p = err_from_is_err_and c.from_residual-in_err-second.result c.from_residual-in_err-second.ensures.1 in
    rw (p.1, p.2) (inr (record {
      between = _;
      box = _;
      placed = c.in_ok-third.ensures;
      follows = inl (c.in_err-second.ensures);
    }))

pub returns-in_err-first-clause-calls : goal.returns-in_err-first-clause-calls
returns-in_err-first-clause-calls g c =
    let p = err_from_is_err_and c.from_residual-in_err-first.result c.from_residual-in_err-first.ensures.1 in
    rw (p.1, p.2) (inr (record {
      between = _;
      box = _;
      placed = c.in_ok-third.ensures;
      follows = inr (record {
        between = _;
        box = _;
        placed = c.in_ok-second.ensures;
        follows = c.in_err-first.ensures;
      });
    }))

pub returns-clause-held : goal.returns-clause-held
returns-clause-held g c = (made _ _ _ _ _ _ _ _ _ c.in_ok-third.ensures c.in_ok-second.ensures _ _ _ _ c.in_ok-first.ensures).0

pub returns-clause-numbers : goal.returns-clause-numbers
returns-clause-numbers g c = (made _ _ _ _ _ _ _ _ _ c.in_ok-third.ensures c.in_ok-second.ensures _ _ _ _ c.in_ok-first.ensures).1

pub returns-clause-frame : goal.returns-clause-frame
returns-clause-frame g c = (made _ _ _ _ _ _ _ _ _ c.in_ok-third.ensures c.in_ok-second.ensures _ _ _ _ c.in_ok-first.ensures).2
