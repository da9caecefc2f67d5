use Rattle.std.proofs.Common.{◌≡◌, ◌∷◌, ◌∙◌, sym, subst, arith}
use Rattle.std.proofs.lemmas.Grind.{common_steps}
use Rattle.arena_rules.specs.State.{State, IsValid, Chunk}
use Rattle.arena_rules.specs.Moves.{with_chunk}
use Rattle.arena_rules.proofs.RoundingLemmas.{layout_power}
use Rattle.arena_rules.proofs.CursorLemmas.{valid_moved}
use Rattle.plain_machine.specs.Answers.{growing_state}
use Rattle.plain_machine.proofs.ResizeLemmas.{placed}
use Rattle.plain_machine.proofs.state.PlainState.alloc_in_chunk.Goals as goal

pub invariant_of-self-2 : goal.invariant_of-self-2
invariant_of-self-2 c =
    let grown = subst (λ (s : State). IsValid (with_chunk (c.args.base, c.args.size) s)) (sym c.self.view_is) c.requires in
    let state = with_chunk (c.args.base, c.args.size)
    (growing_state c.self.inside.min_align c.self.inside.generation c.self.inside.chunks.items) in
    let spot = placed state c.args.layout.size c.args.layout.align c.in-Some.cursor grown (layout_power _ _ c.args.layout.valid)
    (sym c.place.ensures ∙ c.in-Some.is) in
    let chunk : Chunk = record { base = c.args.base; size = c.args.size; cursor = c.in-Some.cursor } in
    let items : c.insert.new.self.items ≡ chunk ∷ c.self.inside.chunks.items = grind (arith, common_steps) in
    rw items (valid_moved state c.in-Some.cursor grown spot.low (omega (arith, spot.high)) spot.min_aligned)

pub returns-clause-within : goal.returns-clause-within
returns-clause-within c =
    let grown = subst (λ (s : State). IsValid (with_chunk (c.args.base, c.args.size) s)) (sym c.self.view_is) c.requires in
    let state = with_chunk (c.args.base, c.args.size)
    (growing_state c.self.inside.min_align c.self.inside.generation c.self.inside.chunks.items) in
    let spot = placed state c.args.layout.size c.args.layout.align c.in-Some.cursor grown (layout_power _ _ c.args.layout.valid)
    (sym c.place.ensures ∙ c.in-Some.is) in
    let chunk : Chunk = record { base = c.args.base; size = c.args.size; cursor = c.in-Some.cursor } in
    let items : c.insert.new.self.items ≡ chunk ∷ c.self.inside.chunks.items = grind (arith, common_steps) in
    rw items (omega (arith, spot.high))
