use Rattle.std.proofs.Common.{arith, refl, ◌∙◌, true, false}
use Rattle.std.proofs.lemmas.List.{take-append-drop}
use Rattle.arena_vec.specs.Vecs.{vec_list}
use Rattle.arena_vec.proofs.Layers.{length-elements, same_then, room_then}
use Rattle.example_collections.proofs.ranking.split_lowest.Goals as goal

pub returns-then-len-out : goal.returns-then-len-out
returns-then-len-out g c =
    let made = c.in_ok-vec.ensures in
    let kept = c.keep_from.ensures in
    record {
      made = room_then _ _ _ _ _ _ _ _ (λ v. v.raw.block) (λ r. r.0.raw.block) c.in_ok-vec.vec (c.keep_from.new.vec, false) kept.block
          made.made kept.places;
      held = kept.held;
      split = (
        record {
          sorted = vec_list g.T.Item c.sorted_of.new.a.memory c.in_ok-vec.vec;
          same = made.values;
          rising = made.sorted;
          parts = kept.list_is;
        },
        omega (arith, length-elements {T = g.row.T.Denot}),
        refl,
      );
      frame = c.frames.ensures.then _ _ _ _ _ _ made.frame kept.frame;
      err = tt;
    }

pub returns : goal.returns
returns g c =
    let made = c.in_ok-vec.ensures in
    let kept = c.keep_from.ensures in
    let took = c.take_front.ensures in
    let then = c.frames.ensures.then in
    record {
      made = room_then _ _ _ _ _ _ _ _ (λ v. v.raw.block) (λ r. r.0.raw.block) c.in_ok-vec.vec (c.take_front.new.vec, true)
          (took.rest.block ∙ kept.block) made.made (same_then _ _ _ kept.places took.rest.places);
      held = took.rest.held;
      split = record {
        sorted = vec_list g.T.Item c.sorted_of.new.a.memory c.in_ok-vec.vec;
        same = made.values;
        rising = made.sorted;
        parts = rw (took.taken, took.rest.list_is) (take-append-drop _ _ ∙ kept.list_is);
      };
      frame = then _ _ _ _ _ _ (then _ _ _ _ _ _ made.frame kept.frame) took.rest.frame;
      err = tt;
    }
