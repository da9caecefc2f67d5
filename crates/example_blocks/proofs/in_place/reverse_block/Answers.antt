use Rattle.std.proofs.Common.{◌≡◌, ◌+◌, ◌∙◌, arith}
use Rattle.std.specs.Prelude.{reverse}
use Rattle.example_blocks.proofs.in_place.reverse_block.Goals as goal

pub returns-clause-writes : goal.returns-clause-writes
returns-clause-writes g c =
    let here : c.args.block.addr + 0 ≡ c.args.block.addr = omega arith in
    rw here at (c.written.ensures.by _ _ c.args.block 0 c.args.block.size reverse c.write_with.ensures.edits)

pub returns-clause-holds : goal.returns-clause-holds
returns-clause-holds g c =
    let edits = c.write_with.ensures.edits in
    let here : c.args.block.addr + 0 ≡ c.args.block.addr = omega arith in
    record {
      readable = rw edits.writes.state c.requires;
      bytes = c.written.ensures.whole _ _ c.args.block edits.list edits.writes edits.sized ∙ rw here at edits.related;
    }
