use Rattle.std.proofs.Common.{rules, ap, ◌∙◌, arith}
use Rattle.atomic_table.specs.Seated.{TableId}
use Rattle.arena_pool.proofs.ClaimLemmas.{swaps}
use Rattle.arena_pool.proofs.claims.Claims.claim.Goals as goal

pub swap-requires : goal.swap-requires
swap-requires c =
    let words = c.self.invariant.1 ∙ ap (λ (t : TableId). t.words) c.self.view_is in
    (search rules, search rules, swaps _ _ _ _ _ (omega (arith, words, c.requires.word)))
