use Rattle.arena_vec.proofs.splice.put_more.Goals as goal

pub returns : goal.returns
returns g c =
    let useful = c.in-Some.ensures.some in
    record {
      hint = c.size_hint-hint.result.0;
      told = c.size_hint-hint.ensures.lower;
      unhinted = λ no. cc;
      hinted = λ yes. rw useful.1 at c.put_hinted.ensures;
    }
