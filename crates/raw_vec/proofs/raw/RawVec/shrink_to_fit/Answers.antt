use Rattle.std.proofs.Common.{arith, ℕ, ◌≡◌, ◌*◌, ◌≤◌, [], ◌∷◌, refl}
use Rattle.std.specs.Prelude.{min}
use Rattle.std.proofs.lemmas.Grind.{common_steps}
use Rattle.std.proofs.Math.Nat.{mul-le-mul_right}
use Rattle.arena_chunks.specs.BlockCalls.{ShrinksBlock}
use Rattle.arena_chunks.specs.Answers.Answer.{Placed}
use Rattle.arena_chunks.proofs.Layers.{empty_after, returned_plain}
use Rattle.arena_items.proofs.Layers.{elements-empty, values_kept}
use Rattle.raw_vec.proofs.raw.RawVec.shrink_to_fit.Goals as goal

pub returns-then-amount-eq0 : goal.returns-then-amount-eq0
returns-then-amount-eq0 g c = grind (
  arith,
  common_steps,
  elements-empty g.T.Item.SIZE g.T.Item.decoded,
  c.new_in.ensures.held c.deallocate.new.self.memory,
  (empty_after _ _ (c.args.self.now.block ∷ []) [] [] c.new_in.result.block (rw c.new_in.ensures.block refl)).1
      (returned_plain _ _ _ c.deallocate.ensures.given c.known.ensures.state),
)

pub returns-in-Ok : goal.returns-in-Ok
returns-in-Ok g c =
    let size = g.T.Item.SIZE in
    let shrunk : ShrinksBlock c.args.a.now c.shrink.new.self c.args.self.now.block (c.args.amount * size) g.T.Item.ALIGN
    (Placed c.in-Ok.block) =
    rw (c.layout_of.ensures.size, c.layout_of.ensures.align) at c.in-Ok.ensures.shrunk in
    let is = shrunk.1.outcome in
    let room : c.args.amount * size ≤ c.args.self.now.block.size =
    omega (arith, c.requires.held.place.of_size, mul-le-mul_right size c.requires.less) in
    let least : min c.args.self.now.block.size (c.args.amount * size) ≡ c.args.amount * size = omega (arith, room) in
    let values = λ (n : ℕ) (within : n ≤ c.args.amount). values_kept g.T.Item.decoded c.args.a.now.memory c.shrink.new.self.memory
    c.args.self.now.block c.in-Ok.block size n (c.args.amount * size) (mul-le-mul_right size within) room
    (omega (arith, is.of_layout.of_size)) (rw least at is.bytes) in
    grind (arith, common_steps, shrunk, is.of_layout, is.frame, values)
