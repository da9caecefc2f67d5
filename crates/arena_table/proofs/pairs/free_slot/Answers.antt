use Rattle.arena_table.proofs.SlotLemmas.{slot-clear}
use Rattle.arena_table.proofs.pairs.free_slot.Goals as goal

pub returns : goal.returns
returns g c = slot-clear g.K.Item g.V.Item c.args.slots c.args.bytes.now c.requires.shape c.args.i c.requires.index
