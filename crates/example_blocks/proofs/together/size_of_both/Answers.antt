use Rattle.std.proofs.Common.{arith, [], ◌∷◌}
use Rattle.example_blocks.proofs.together.size_of_both.Goals as goal

pub overflow_add-result : goal.overflow_add-result
overflow_add-result g c =
    let both = c.readable.ensures.together c.args.a.now.memory.state (c.args.one ∷ c.args.other ∷ [])
    (c.requires.one, (c.requires.other, tt)) ((c.requires.apart, tt), (tt, tt)) in
    omega (arith, both)

pub returns-clause-within : goal.returns-clause-within
returns-clause-within g c =
    let both = c.readable.ensures.together c.args.a.now.memory.state (c.args.one ∷ c.args.other ∷ [])
    (c.requires.one, (c.requires.other, tt)) ((c.requires.apart, tt), (tt, tt)) in
    omega (arith, both)
