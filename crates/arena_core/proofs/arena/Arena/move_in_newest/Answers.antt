use Rattle.std.proofs.lemmas.Bool.Decides.{nat_tests}
use Rattle.std.proofs.Common.{arith}
use Rattle.arena_store.proofs.BytesLemmas.{no_bytes, written_none}
use Rattle.arena_core.proofs.PartLemmas.{newest_part, newest_bytes, newest_lent, is_move, moved, IsMoved}
use Rattle.arena_core.proofs.arena.Arena.move_in_newest.Given.{Over}
use Rattle.arena_core.proofs.arena.Arena.move_in_newest.Goals as goal

pub returns-then-n-eq0-clause-bytes : goal.returns-then-n-eq0-clause-bytes
returns-then-n-eq0-clause-bytes g c = grind (arith, nat_tests, written_none, no_bytes)

pub shift_in-requires-clause-source : goal.shift_in-requires-clause-source
shift_in-requires-clause-source g c =
    let move = is_move g.row.MIN_ALIGN c.self.inside c.args.self.now c.args.from c.args.to c.args.n c.self.invariant c.self.view_is
    c.requires.source c.requires.target c.requires.newest c.if-n-eq0.false in
    newest_part _ _ _ _ _ move.source move.low

pub shift_in-requires-clause-target : goal.shift_in-requires-clause-target
shift_in-requires-clause-target g c =
    let move = is_move g.row.MIN_ALIGN c.self.inside c.args.self.now c.args.from c.args.to c.args.n c.self.invariant c.self.view_is
    c.requires.source c.requires.target c.requires.newest c.if-n-eq0.false in
    newest_part _ _ _ _ _ move.target move.above

in_newest : (g : Over) (c : goal.After-shift_in g)
    → IsMoved g.row.MIN_ALIGN c.self.inside c.args.self.now c.args.from c.args.to c.args.n c.shift_in.new.chunk c.self.inside.older.items
in_newest g c =
    let move = is_move g.row.MIN_ALIGN c.self.inside c.args.self.now c.args.from c.args.to c.args.n c.self.invariant c.self.view_is
    c.requires.source c.requires.target c.requires.newest c.if-n-eq0.false in
    rw c.shift_in.ensures (moved _ _ _ _ _ _ _ _ _ (newest_bytes _ _ _ _ _ move.source move.low)
    (newest_lent _ _ _ _ _ _ move.target move.above))

pub invariant_of-self : goal.invariant_of-self
invariant_of-self g c = (in_newest g c).stored

pub returns-clause-state : goal.returns-clause-state
returns-clause-state g c = (in_newest g c).state

pub returns-clause-bytes : goal.returns-clause-bytes
returns-clause-bytes g c = (in_newest g c).image
