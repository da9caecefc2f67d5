-- Branches that are copied part by part: the name, the id, and the leaves.
use Rattle.std.proofs.Common.{[], ◌++◌, Ok, Err, refl}
use Rattle.std.specs.Prelude.{List, Result}
use Rattle.arena_chunks.specs.Frame.{Frame}
use Rattle.arena_chunks.specs.Memory.{Memory}
use Rattle.arena_chunks.specs.Source.{View}
use Rattle.arena_chunks.specs.declared.allocator.text.Str.{Str}
use Rattle.arena_store.specs.declared.block.Block.{Block}
use Rattle.arena_items.specs.declared.room.AllocError.{AllocError}
use Rattle.arena_vec.specs.declared.vec.Vec.{Vec}
use Rattle.arena_clone.specs.Kinds.{Kind, text, semantic_id}
use Rattle.arena_clone.specs.laws.KindLaws.{IsLawful, text_lawful, semantic_id_lawful}
use Rattle.arena_clone.specs.Copies.{Copies}
use Rattle.arena_clone.specs.Origins.{IsOrigin}
use Rattle.arena_kinds.specs.declared.ids.CloneInSemanticIds.{CloneInSemanticIds}
use Rattle.arena_clone.specs.declared.semantic_id.SemanticId.{SemanticId}
use Rattle.arena_clone.proofs.Layers.{frame_more, makes_both, makes_refused, placed_copied, placed_held, second_refused}
use Rattle.example_collections.specs.Branches.{inside_of, branch_of}
use Rattle.example_collections.specs.declared.branches.Branch.{Branch}

module _ {L : Type 0} (leaves : Kind (Vec L)) (ids : CloneInSemanticIds) (source : Memory) (b : Branch L) where
  -- If the copy of the name fails, so does that of the branch,
  pub name_refused : {old new : View} {e : AllocError} → Copies text ids source old new b.name (Err e)
      → Copies (branch_of leaves) ids source old new b (Err e)
  name_refused name = makes_refused ((inside_of leaves).asks source b) name

  module _ {old first second new : View} {name : Str} {id : SemanticId} (named : Copies text ids source old first b.name (Ok name))
      (known : Copies semantic_id ids source first second b.id (Ok id)) where
    -- and so it does if the copy of the leaves fails.
    pub leaves_refused : {e : AllocError} → Copies leaves ids source second new b.leaves (Err e)
        → Copies (branch_of leaves) ids source old new b (Err e)
    leaves_refused rest =
        second_refused text (inside_of leaves) (λ b. b.name) (λ b. b) text_lawful named
        (second_refused semantic_id leaves (λ b. b.id) (λ b. b.leaves) semantic_id_lawful known rest)

    -- If nothing fails, the branch has the copies.
    pub branch_made : {list : Vec L} → Copies leaves ids source second new b.leaves (Ok list)
        → Copies (branch_of leaves) ids source old new b (Ok (record { name = name; id = id; leaves = list }))
    branch_made rest =
        makes_both text (inside_of leaves) (λ b. b.name) (λ b. b) text_lawful named refl refl
        (makes_both semantic_id leaves (λ b. b.id) (λ b. b.leaves) semantic_id_lawful known refl refl rest)

-- The leaves are unchanged after the name and the id are copied.
module _ {there : Memory → Memory} {is_beside : Block → List Block → Type 0} (origin : IsOrigin there is_beside) {L : Type 0}
    {leaves : Kind (Vec L)} (are : IsLawful leaves) (b : Branch L) (ids : CloneInSemanticIds) {old first second : View} {name : Str}
    {id : SemanticId} (named : Copies text ids (there old.memory) old first b.name (Ok name))
    (known : Copies semantic_id ids (there old.memory) first second b.id (Ok id)) (held : leaves.is_held (there old.memory) b.leaves) where
  placed : Frame old.memory second.memory [] (named.blocks ++ known.blocks)
  placed = frame_more old.memory first.memory second.memory named.blocks known.blocks named.placed.frame known.placed.frame

  pub leaves_held : leaves.is_held (there second.memory) b.leaves
  leaves_held = placed_held origin placed are b.leaves held

  pub leaves_copied : {new : View} {result : Result (Vec L) AllocError} → Copies leaves ids (there second.memory) second new b.leaves result
      → Copies leaves ids (there old.memory) second new b.leaves result
  leaves_copied = placed_copied origin placed are b.leaves held
