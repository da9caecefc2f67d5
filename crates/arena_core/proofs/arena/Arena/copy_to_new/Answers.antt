use Rattle.std.proofs.Common.{◌≡◌, ℕ, ◌∙◌, ap, sym, refl, subst, arith}
use Rattle.arena_store.specs.Memory.{Memory, image, bytes_from, written}
use Rattle.arena_core.specs.Adding.{placed_at}
use Rattle.arena_core.specs.Resizes.{replaced}
use Rattle.arena_core.proofs.FrameLemmas.{bytes_moved}
use Rattle.arena_core.proofs.ReadableLemmas.{readable_part}
use Rattle.arena_core.proofs.AllocationLemmas.{block_placed}
use Rattle.arena_core.proofs.ResizedLemmas.{resized_anew}
use Rattle.arena_core.proofs.arena.Arena.copy_to_new.Goals as goal

pub place_copy_at-requires : goal.place_copy_at-requires
place_copy_at-requires g c =
    let found = c.in-Ok.ensures.found in
    let places = block_placed c.args.self.now (placed_at c.find_place.new.self c.in-Ok.addr) _ _ c.args.layout.size c.args.layout.align
    c.in-Ok.refused c.in-Ok.addr _ found.valid c.args.layout.valid found.placing found.asked refl in (
      omega arith,
      (
        found.place,
        (
          λ some. places.outcome.frame.kept c.args.block.addr c.args.n some
              (readable_part c.args.self.now.state c.args.block _ _ c.requires.readable (omega arith) (omega (arith, c.requires.n)) some)
              tt,
          omega (arith, c.requires.n),
        ),
      ),
    )

pub returns-in-Ok : goal.returns-in-Ok
returns-in-Ok g c =
    let found = c.in-Ok.ensures.found in
    let mid : Memory = placed_at c.find_place.new.self c.in-Ok.addr in
    let same : image mid ≡ image c.find_place.new.self =
    bytes_moved c.in-Ok.addr c.find_place.new.self.state.chunks c.find_place.new.self.bytes in
    let bytes = subst (λ (f : ℕ → ℕ). (p : ℕ)
    → image c.place_copy_at.new.self p ≡ written f c.in-Ok.addr (bytes_from f c.args.block.addr c.args.n) p)
    (sym same) c.place_copy_at.ensures.bytes in
    resized_anew c.args.self.now mid c.count_move.new.self _ _ c.args.block _ c.args.layout.size c.args.layout.align c.in-Ok.refused
    (block_placed c.args.self.now mid _ _ c.args.layout.size c.args.layout.align c.in-Ok.refused c.in-Ok.addr _ found.valid
    c.args.layout.valid found.placing found.asked refl) c.requires.readable
    (ap (λ (w : Memory). w.state) c.count_move.ensures ∙ c.place_copy_at.ensures.state)
    (ap (λ (w : Memory). w.statistics) c.count_move.ensures ∙ ap replaced c.place_copy_at.ensures.statistics)
    (λ p. ap (λ (w : Memory). image w p) c.count_move.ensures ∙ rw c.requires.n at (bytes p))
