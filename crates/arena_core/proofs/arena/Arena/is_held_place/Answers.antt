use Rattle.std.proofs.Common.{◌≡◌, ◌∙◌, ap, arith, true, false, ne_eqb, eq-eqb}
use Rattle.std.specs.Prelude.{◌==◌}
use Rattle.arena_store.specs.Memory.{Memory}
use Rattle.arena_core.proofs.StoredLemmas.{older_ordered, used_all}
use Rattle.arena_core.proofs.arena.Arena.is_held_place.Goals as goal

pub has-requires-else-has : goal.has-requires-else-has
has-requires-else-has g c = older_ordered g.row.MIN_ALIGN c.self.inside c.self.invariant

pub returns-else-has : goal.returns-else-has
returns-else-has g c =
    let used = used_all g.row.MIN_ALIGN c.self.inside c.args.self.now c.args.block.addr c.args.block.size c.self.invariant c.self.view_is
    (omega (arith, c.if-block-eq0.false)) in
    let filled : (c.args.block.size == 0) ≡ false = ne_eqb _ _ c.if-block-eq0.false in
    let current : (c.args.block.generation == c.args.self.now.state.generation) ≡ true =
    eq-eqb _ _ (c.if-block-self.true ∙ ap (λ (w : Memory). w.state.generation) c.self.view_is) in
    rw (filled, current, ← used, ← c.has.ensures, c.if-has.false) c.has-else-has.ensures
