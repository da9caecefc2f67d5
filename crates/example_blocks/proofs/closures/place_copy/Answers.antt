use Rattle.std.proofs.Common.{◌∙◌, rules, of_calls}
use Rattle.std.proofs.lemmas.Option.{slice_get_read}
use Rattle.arena_items.proofs.Layers.{fills_list, length-elements}
use Rattle.example_blocks.proofs.closures.place_copy.Goals as goal

pub returns : goal.returns
returns g c =
    let is = c.in_ok-copies.ensures in
    record {
      placed = is.placed;
      held = is.held;
      length = is.length;
      list = fills_list _ _ c.args.src.now (λ i x t bound step. (search (rules, of_calls, slice_get_read), search (rules, of_calls)))
          _ is.list.0 is.list.1 (length-elements _ _ _ _ ∙ is.length);
    }
