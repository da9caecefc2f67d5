use Rattle.std.proofs.Common.{◌*◌}
use Rattle.arena_items.specs.Values.{IsSliceIn, slice_list}
use Rattle.arena_kinds.specs.Asks.Ask.{Room}
use Rattle.arena_kinds.proofs.MadeLemmas.{makes_no_values}
use Rattle.arena_kinds.proofs.dummy.BoxSliceDummy.dummy.Goals as goal

pub returns : goal.returns
returns g c =
    let empty = c.new_empty_boxed_slice.ensures in
    makes_no_values g.T.Item (λ s. s.block) (IsSliceIn g.T.Item) (slice_list g.T.Item) (λ s. Unit {0})
    (λ s. Room (s.length * g.T.Item.SIZE) g.T.Item.ALIGN) g.T.Item.ALIGN c.args._a.now c.new_empty_boxed_slice.result
    (empty.held c.args._a.now.memory) empty.block (empty.list c.args._a.now.memory) tt
