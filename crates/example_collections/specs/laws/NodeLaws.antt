-- The bytes of a node's blocks determine what it means.
use Rattle.arena_items.specs.declared.item.Item.{Ghosts}
use Rattle.arena_clone.specs.Kinds.{Kind, text, vec_of}
use Rattle.arena_clone.specs.laws.KindLaws.{IsLawful, text_lawful, vec_lawful}
use Rattle.arena_clone.specs.EitherKind.{sum_of}
use Rattle.arena_clone.specs.laws.EitherLaws.{sum_lawful, either_lawful}
use Rattle.example_collections.specs.Nodes.{sort_of, node_of}

pub node_lawful : {L : Type 0} (item : Ghosts L) (leaf : Kind L) → IsLawful leaf → IsLawful (node_of leaf (vec_of item leaf))
node_lawful item leaf is = either_lawful text (sum_of leaf (vec_of item leaf)) text_lawful
    (sum_lawful leaf (vec_of item leaf) is (vec_lawful item leaf is)) sort_of
