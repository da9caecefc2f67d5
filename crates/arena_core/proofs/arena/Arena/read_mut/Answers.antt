use Rattle.std.proofs.Common.{◌≡◌, ℕ, ◌+◌, ◌∙◌, List, ap, arith, refl, subst}
use Rattle.arena_store.specs.Memory.{Memory, image, bytes_from}
use Rattle.arena_core.specs.BlockCalls.{WritesBlock}
use Rattle.arena_core.specs.BlockLends.{with_range}
use Rattle.arena_core.proofs.arena.Arena.read_mut.Goals as goal

pub returns : goal.returns
returns g c =
    let first : c.args.block.addr + 0 ≡ c.args.block.addr = omega arith in
    let same = (λ (list : List ℕ). ap (λ (p : ℕ). with_range c.args.self.now p c.args.block.size list) first) in (
      (refl, same),
      record {
        writes_back = tt;
        value = c.range_mut.ensures.value ∙ ap (λ (p : ℕ). bytes_from (image c.args.self.now) p c.args.block.size) first;
        writes = λ list sized. subst (λ (w : Memory). WritesBlock c.args.self.now w c.args.block 0 list) (same list)
            (c.range_mut.ensures.writes list sized);
      },
    )
