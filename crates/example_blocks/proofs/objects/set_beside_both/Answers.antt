use Rattle.std.proofs.Common.{rules, ap}
use Rattle.example_blocks.proofs.objects.set_beside_both.Goals as goal

pub returns : goal.returns
returns g c =
    let frame = c.set.ensures.writes.frame in
    let both = c.frame_law.ensures _ _ _ _ c.args.others frame (c.requires.first, c.requires.second) c.requires.apart in
    record { one = search rules; held = both.held; first = ap (λ p. p.0) both.means; second = ap (λ p. p.1) both.means }
