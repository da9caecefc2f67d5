use Rattle.std.proofs.Common.{length, refl, arith}
use Rattle.arena_items.specs.Layout.IsAlign.{one}
use Rattle.arena_clone.proofs.LayoutLemmas.{fits_layout}
use Rattle.arena_clone.proofs.CopiedLemmas.{copied_placed, written_bytes}
use Rattle.arena_clone.proofs.convert.StrFromInString.from_in.Goals as goal

pub place-requires : goal.place-requires
place-requires g c = fits_layout (length c.as_bytes-bytes.result.now) 1 one (let h = c.as_bytes-bytes.type_inv in omega arith)

pub returns : goal.returns
returns g c =
    let bytes = c.as_bytes-bytes.result.now in
    let placed = copied_placed c.args.a.now c.place.new.a c.write.new.self (length bytes) 1 c.in_ok-block.block bytes c.in_ok-block.ensures
    c.write.ensures.writes c.write.ensures.source in
    rw (← c.as_bytes-bytes.ensures.value) (record {
      placed = placed;
      held = placed.1.outcome.of_layout.readable;
      text = written_bytes c.args.a.now c.place.new.a c.write.new.self (length bytes) 1 c.in_ok-block.block bytes c.in_ok-block.ensures
          c.write.ensures.writes refl;
    })
