use Rattle.std.proofs.Common.{◌≡◌, ◌+◌, ◌-◌, ap, arith, List, ℕ}
use Rattle.arena_region.specs.Bytes.{bytes}
use Rattle.arena_store.proofs.ShiftLemmas.{moved_in_last}
use Rattle.arena_store.proofs.edit.shift_in.Goals as goal

pub returns : goal.returns
returns c =
    let chunk = c.args.chunk.now in
    let from : chunk.cursor - chunk.base + (c.args.from - chunk.cursor) ≡ c.args.from - chunk.base =
    omega (arith, c.requires.source.ready, c.requires.source.used) in
    let to : chunk.cursor - chunk.base + (c.args.to - chunk.cursor) ≡ c.args.to - chunk.base =
    omega (arith, c.requires.target.ready, c.requires.target.used) in
    ap (λ (l : List ℕ). record chunk { bytes = bytes l chunk.bytes.low })
    (rw (from, to) at (moved_in_last chunk.bytes.items c.part_mut-place.result.now c.shift.new.bytes (chunk.cursor - chunk.base)
    (c.args.from - chunk.cursor) (c.args.to - chunk.cursor) c.args.size
    (rw c.len.ensures.value at c.part_mut-place.ensures.value) c.shift.ensures (omega (arith, from, c.requires.source.ready, c.requires.source.high))
    (omega (arith, to, c.requires.target.ready, c.requires.target.high))))
