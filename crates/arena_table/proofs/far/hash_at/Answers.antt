use Rattle.arena_table.proofs.HandleLemmas.{handle-shape, held-within}
use Rattle.std.proofs.Common.{arith}
use Rattle.arena_table.proofs.far.hash_at.Goals as goal

pub key_at-key-requires-clause-index : goal.key_at-key-requires-clause-index
key_at-key-requires-clause-index g c = held-within c.requires.held c.args.i c.requires.taken.0 c.requires.taken.1

pub key_at-key-requires-clause-shape : goal.key_at-key-requires-clause-shape
key_at-key-requires-clause-shape g c =
    let within = held-within c.requires.held c.args.i c.requires.taken.0 c.requires.taken.1 in
    rw c.read.ensures (handle-shape _ _ _ _ c.requires.keys_small c.requires.values_small c.requires.held.handle (omega (arith, within)))
