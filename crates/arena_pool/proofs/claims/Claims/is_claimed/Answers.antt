use Rattle.std.proofs.Common.{rules, ap, ◌∙◌, arith}
use Rattle.atomic_table.specs.Seated.{TableId}
use Rattle.arena_pool.proofs.ClaimLemmas.{loads}
use Rattle.arena_pool.proofs.claims.Claims.is_claimed.Goals as goal

pub load-requires : goal.load-requires
load-requires c =
    let words = c.self.invariant.1 ∙ ap (λ (t : TableId). t.words) c.self.view_is in
    (search rules, search rules, loads _ _ _ _ _ (omega (arith, words, c.requires.word)))
