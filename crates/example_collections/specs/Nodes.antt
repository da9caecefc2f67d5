-- Nodes of a tree, at every depth.
use Rattle.std.proofs.Common.{◌⊎◌, inl, inr}
use Rattle.arena_chunks.specs.declared.allocator.text.Str.{Str}
use Rattle.arena_vec.specs.declared.vec.Vec.{Vec}
use Rattle.arena_clone.specs.Kinds.{Kind, text}
use Rattle.arena_clone.specs.EitherKind.{sum_of, either_of}
use Rattle.example_collections.specs.declared.nodes.Node.{Node}
use Rattle.example_collections.specs.declared.nodes.Node.TheVariants.{Name, Leaf, Leaves}

-- a node as a sum: a name, a leaf, or a list
abbrev pub sort_of : {L : Type 0} → Node L → Str ⊎ (L ⊎ Vec L)
sort_of (Name s) = inl s
sort_of (Leaf l) = inr (inl l)
sort_of (Leaves v) = inr (inr v)

abbrev pub node_of : {L : Type 0} → Kind L → Kind (Vec L) → Kind (Node L)
node_of leaf list = either_of text (sum_of leaf list) sort_of
