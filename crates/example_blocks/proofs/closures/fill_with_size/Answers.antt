use Rattle.std.proofs.Common.{◌*◌, ◌∙◌, ap, replicate, rules}
use Rattle.std.proofs.iter.Serving.{serving}
use Rattle.arena_items.specs.laws.LayoutLaws.{plain_8}
use Rattle.arena_items.proofs.Layers.{array_fits, fills_same, length-elements}
use Rattle.example_blocks.proofs.closures.fill_with_size.Goals as goal

-- If there is a place, the product fits in 64 bits.
pub alloc_slice_fill_with-requires-clause-callable : goal.alloc_slice_fill_with-requires-clause-callable
alloc_slice_fill_with-requires-clause-callable g c = λ new b places.
    let fits = array_fits _ _ _ _ _ b plain_8 places in grind serving

pub returns : goal.returns
returns g c =
    let is = c.in_ok-sizes.ensures in
    let same = fills_same _ _ (c.args.n * 8) (λ i x t step. search rules) 0 _ is.list.0 is.list.1 in
    record {
      placed = is.placed;
      held = is.held;
      length = is.length;
      list = same ∙ ap (λ k. replicate k (c.args.n * 8)) (length-elements _ _ _ _ ∙ is.length);
    }
