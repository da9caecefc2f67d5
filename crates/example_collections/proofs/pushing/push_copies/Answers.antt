use Rattle.std.proofs.Common.{[], ◌∷◌, ◌++◌, ap, ◌∙◌, sym, append_assoc, append-nil, arith, ◌≡◌, ◌+◌, ◌*◌, ◌≤◌, length, length-append, Err}
use Rattle.std.proofs.Math.Nat.{mul-le-mul_right}
use Rattle.std.proofs.lemmas.Result.{err_from_is_err_and}
use Rattle.std.proofs.lemmas.List.{replicate_more}
use Rattle.arena_chunks.proofs.Layers.{frame_then, frame_reflexive}
use Rattle.arena_vec.specs.Vecs.{vec_list}
use Rattle.arena_vec.proofs.Layers.{length-elements}
use Rattle.example_collections.proofs.PushingLemmas.{none_asked, one_more}
use Rattle.example_collections.proofs.pushing.push_copies.Goals as goal

pub copies-init : goal.copies-init
copies-init g c = record {
  held = c.requires.held;
  list = sym (append-nil _);
  frame = frame_reflexive _ _;
  cap = omega arith;
  len = omega arith;
  asks = none_asked g.T.Item c.args.value c.args.a.now c.args.vec.now;
}

pub copies-preserved : goal.copies-preserved
copies-preserved g c =
    let before = c.copies.invariant in
    let list = vec_list g.T.Item c.args.a.now.memory c.args.vec.now in
    let now = vec_list g.T.Item c.copies.a.memory c.copies.vec in
    let count : length (now ++ c.args.value ∷ []) ≡ c.copies.vec.raw.len + 1 =
    omega (arith, length-append now (c.args.value ∷ []), length-elements {T = g.row.T.Denot}) in
    record {
      held = c.push.ensures.held;
      list = c.in_ok-push.ensures.list_is ∙ ap (λ l. l ++ c.args.value ∷ []) before.list ∙ append_assoc list _ _
          ∙ ap (λ l. list ++ l) (replicate_more c.copies.counter c.args.value);
      frame = frame_then _ _ _ _ _ _ before.frame c.push.ensures.frame;
      cap = omega (arith, before.cap, c.vector_costs.ensures.keeps _ _ _ _ _ _ _ c.push.ensures);
      len = omega (arith, c.in_ok-push.ensures.len, count, before.len);
      asks = one_more g.T.Item c.args.value c.copies.counter c.args.a.now c.copies.a c.push.new.a c.args.vec.now c.copies.vec
          c.push.new.self
          before.len before.asks c.in_ok-push.ensures
          (λ some few. c.vector_costs.ensures.asks c.copies.a c.push.new.a c.copies.vec c.push.new.self 1 _ _ before.held some count few
          c.in_ok-push.ensures);
    }

pub returns-in_err-push-clause-fits : goal.returns-in_err-push-clause-fits
returns-in_err-push-clause-fits g c = λ few bytes.
    let size = g.T.Item.SIZE in
    let len : c.copies.vec.raw.len + 1 ≤ c.args.vec.now.raw.len + c.args.n = omega (arith, c.copies.invariant.len) in
    let less : (c.copies.vec.raw.len + 1) * size ≤ (c.args.vec.now.raw.len + c.args.n) * size = mul-le-mul_right size len in
    let p = err_from_is_err_and c.from_residual.result c.from_residual.ensures.1 in
    rw (p.1, p.2) (c.vector_costs.ensures.fits c.copies.a c.push.new.a c.copies.vec c.push.new.self (c.copies.vec.raw.len + 1) _ (Err _)
    (omega (arith, few, len)) (omega (arith, bytes, less)) c.in_err-push.ensures)
