use Rattle.example_language.proofs.PlacingLemmas.{numbered, named, joined}
use Rattle.example_language.proofs.parsing.node_of.Goals as goal

pub returns-in-Number-clause-completes : goal.returns-in-Number-clause-completes
returns-in-Number-clause-completes g c trees placed = rw c.in-Number.is (numbered c.args.word.now c.args.at c.in-Number.n placed)

pub returns-in_ok-name-in-Name-clause-completes : goal.returns-in_ok-name-in-Name-clause-completes
returns-in_ok-name-in-Name-clause-completes g c trees placed =
    let name = c.in_ok-name-in-Name.ensures in
    rw c.in-Name.is (named c.args.word.now c.args.at _ placed name.rows name.number)

pub returns-in_ok-left-in-Join-clause-completes : goal.returns-in_ok-left-in-Join-clause-completes
returns-in_ok-left-in-Join-clause-completes g c trees placed =
    rw (c.in-Join.is, c.sign_node.ensures.node)
    (joined c.args.word.now c.args.at c.in-Join.sign _ _ _ trees placed c.in_ok-left-in-Join.ensures.items)
