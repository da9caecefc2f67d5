use Rattle.std.proofs.Common.{◌<◌, ◌≤◌, length, refl, sym, ap, ◌∙◌, arith, rules}
use Rattle.std.proofs.lemmas.List.{take_all, length-take}
use Rattle.arena_vec.specs.Draining.{left}
use Rattle.arena_vec.specs.Vecs.{vec_list}
use Rattle.arena_vec.proofs.Layers.{length-elements, drain_then, window-front}
use Rattle.example_collections.proofs.TakingLemmas.{rest_left, some_left, left_more, taken_more}
use Rattle.example_collections.proofs.taking.take_front.Goals as goal
use Rattle.example_collections.proofs.taking.take_front.Goals.{in-Some, in_default}

pub loop-place-init : goal.loop-place-init
loop-place-init g c = record {
  same = grind (arith, c.drain-gone.ensures.drains);
  rest = refl;
  taken = refl;
}

pub loop-place-preserved : goal.loop-place-preserved
loop-place-preserved g c =
    let before = c.loop-place.invariant in
    let list = left g.T.Item c.drain-gone.result in
    let i = c.loop-place.place-index in
    let whole = vec_list g.T.Item c.args.a.now.memory c.args.vec.now in
    let is_front = c.drain-gone.ensures.left ∙ window-front whole (length c.args.out.now) in
    let within : i < length list =
    omega (arith, ap length is_front, length-take (length c.args.out.now) whole, length-elements {T = g.row.T.Denot}) in
    elim c.match-next.branch [
      | in-Some w ↦
          let step = w.in-Some.ensures.steps in
          let is = sym before.rest ∙ step.0 in
          rw w.out-is (record {
            same = drain_then g.T.Item _ _ _ before.same step.1;
            rest = left_more list i within w.in-Some.value _ is;
            taken = taken_more list i within w.in-Some.value _ is c.loop-place.out (omega arith) before.taken;
          })
      | in_default w ↦ absurd (some_left list i within c.place-item.result (sym before.rest ∙ w.in_default.ensures.steps.0.0))
    ]

pub returns-clause-taken : goal.returns-clause-taken
returns-clause-taken g c =
    let list = left g.T.Item c.drain-gone.result in
    let i = c.loop-place.place-index in
    let whole = vec_list g.T.Item c.args.a.now.memory c.args.vec.now in
    let is_front = c.drain-gone.ensures.left ∙ window-front whole (length c.args.out.now) in
    let few : length list ≤ i =
    omega (arith, ap length is_front, length-take (length c.args.out.now) whole, length-elements {T = g.row.T.Denot}) in
    sym (take_all i c.loop-place.out (omega arith)) ∙ c.loop-place.invariant.taken ∙ take_all i list few ∙ is_front

pub returns-clause-rest : goal.returns-clause-rest
returns-clause-rest g c =
    let gone = c.drain-gone.ensures in
    let rest = rest_left g.T.Item c.drain-gone.result c.loop-place.gone _ _ (length c.args.out.now) _ _ c.loop-place.invariant.same gone.vec
    gone.arena gone.range.0 gone.range.1 c.finish.ensures in
    search rules
