use Rattle.std.proofs.Common.{ℕ, ◌+◌, ◌*◌, ◌≤◌, length, arith}
use Rattle.arena_table.proofs.SlotLemmas.{length-splice, mid-splice, slot-within, value-set}
use Rattle.arena_table.proofs.put.change_value.Goals as goal

pub returns : goal.returns
returns g c =
    let shape = c.requires.shape in
    let item = g.met.V.Item in
    let long = item.encoded_length c.args.value c.known.ensures shape.values_small in
    let back = item.round_trip c.args.value c.known.ensures shape.values_small in
    let within = slot-within c.args.at c.args.slots g.K.Item.SIZE g.V.Item.SIZE c.requires.at in
    let place : ℕ = c.args.slots + c.args.at * (g.K.Item.SIZE + g.V.Item.SIZE) + g.K.Item.SIZE in
    let fits : place + length (g.V.Item.encoded c.args.value) ≤ length c.args.bytes.now = omega (arith, within, shape.long, long) in
    rw (
      c.SIZE.ensures,
      c.SIZE-2.ensures,
      c.pair_size.ensures,
      c.encode.ensures,
      mid-splice place _ _ _ long,
    )
    (record {
      long = length-splice c.args.bytes.now place (g.V.Item.encoded c.args.value) fits;
      sets = λ x there. value-set _ _ _ _ shape c.args.at (g.V.Item.encoded c.args.value) x _ there long back;
    })
