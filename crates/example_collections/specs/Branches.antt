-- Branches of a tree, at every depth.
use Rattle.arena_vec.specs.declared.vec.Vec.{Vec}
use Rattle.arena_clone.specs.Kinds.{Kind, text, semantic_id, both_of}
use Rattle.example_collections.specs.declared.branches.Branch.{Branch}

module _ {L : Type 0} (leaves : Kind (Vec L)) where
  -- its id and its leaves
  abbrev pub inside_of : Kind (Branch L)
  inside_of = both_of semantic_id leaves (λ b. b.id) (λ b. b.leaves)

  -- a branch is its name, and what is inside
  abbrev pub branch_of : Kind (Branch L)
  branch_of = both_of text inside_of (λ b. b.name) (λ b. b)
