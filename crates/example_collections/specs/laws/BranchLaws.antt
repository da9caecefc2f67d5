-- The bytes of a branch's blocks determine what it means.
use Rattle.arena_items.specs.declared.item.Item.{Ghosts}
use Rattle.arena_clone.specs.Kinds.{Kind, text, semantic_id, vec_of}
use Rattle.arena_clone.specs.laws.KindLaws.{IsLawful, text_lawful, semantic_id_lawful, vec_lawful, both_lawful}
use Rattle.example_collections.specs.Branches.{inside_of, branch_of}

pub branch_lawful : {L : Type 0} (item : Ghosts L) (leaf : Kind L) → IsLawful leaf → IsLawful (branch_of (vec_of item leaf))
branch_lawful item leaf is = both_lawful text (inside_of (vec_of item leaf)) (λ b. b.name) (λ b. b) text_lawful
    (both_lawful semantic_id (vec_of item leaf) (λ b. b.id) (λ b. b.leaves) semantic_id_lawful (vec_lawful item leaf is))
