use Rattle.std.proofs.Common.{◌≡◌, ◌*◌, min, ap, sym, inr, ◌∙◌, arith}
use Rattle.arena_bits.specs.Bits.{words_for}
use Rattle.example_collections.proofs.bits.copied.Goals as goal

pub union-requires-clause-other : goal.union-requires-clause-other
union-requires-clause-other g c = (c.frame_law.ensures _ _ _ _ c.args.set.now c.in_ok-copy.ensures.frame c.requires (tt, tt)).held

pub union-requires-clause-apart : goal.union-requires-clause-apart
union-requires-clause-apart g c = inr (c.frame_law.ensures _ _ _ _ c.args.set.now c.in_ok-copy.ensures.frame c.requires (tt, tt)).apart.0.0

pub returns : goal.returns
returns g c =
    let made = c.in_ok-copy.ensures in
    let set = c.args.set.now in
    let stays = c.frame_law.ensures _ _ _ _ set made.frame c.requires (tt, tt) in
    let size = made.held.count ∙ ap words_for made.capacity ∙ sym c.requires.count in
    let limit : 64 * min c.in_ok-copy.copy.words.length set.words.length ≡ 64 * set.words.length = omega (arith, size) in
    let all = c.limit_law.ensures.below c.args.a.now.memory set in
    rw c.union.ensures.handle
    (c.filled_law.ensures _ _ _ _ _ _ _ made (rw (made.set_is, stays.means, limit, all) at c.union.ensures.becomes))
