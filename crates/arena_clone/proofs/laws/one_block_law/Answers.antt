use Rattle.std.proofs.Common.{◌*◌, ap, ◌∷◌}
use Rattle.arena_items.specs.Values.{slice_list}
use Rattle.arena_vec.specs.Vecs.{vec_list}
use Rattle.arena_clone.specs.Asks.{vector_ask}
use Rattle.arena_clone.specs.Asks.Ask.{Room}
use Rattle.arena_clone.specs.FlatLaws.{none_in_all}
use Rattle.arena_clone.proofs.laws.one_block_law.Goals as goal

pub returns-clause-vector : goal.returns-clause-vector
returns-clause-vector g c = λ none m v.
    ap (λ asks. vector_ask g.T.Item.SIZE g.T.Item.ALIGN v.raw.len ∷ asks)
    (none_in_all (g.T.CloneIn.kind.asks m) (none m) (vec_list g.T.Item m v))

pub returns-clause-slice : goal.returns-clause-slice
returns-clause-slice g c = λ none m s.
    ap (λ asks. Room (s.length * g.T.Item.SIZE) g.T.Item.ALIGN ∷ asks)
    (none_in_all (g.T.CloneIn.kind.asks m) (none m) (slice_list g.T.Item m s))
