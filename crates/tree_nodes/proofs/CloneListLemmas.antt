-- Lists with room for all nodes that are to come.
use Rattle.std.proofs.lemmas.Bool.Decides.{nat_tests}
use Rattle.std.proofs.Common.{arith, ◌≡◌, ◌+◌, Result, Ok, Err, List, [], ◌∷◌, ◌++◌, length}
use Rattle.arena_chunks.specs.Memory.{Memory}
use Rattle.arena_chunks.specs.Source.{View}
use Rattle.arena_chunks.specs.Frame.{Frame}
use Rattle.arena_items.specs.Room.{SamePlaces}
use Rattle.arena_items.specs.declared.room.AllocError.{AllocError}
use Rattle.arena_items.specs.declared.room.Growth.TheVariants.{Stays}
use Rattle.arena_vec.specs.Changes.{Grows}
use Rattle.arena_vec.specs.Growth.{amortised_growth}
use Rattle.arena_vec.specs.Vecs.{IsVecIn, vec_list}
use Rattle.arena_vec.specs.declared.vec.Vec.{Vec}
use Rattle.tree_nodes.specs.declared.node.Node.{Node}
use Rattle.tree_nodes.specs.TreesAt.{node_item}
use Rattle.tree_nodes.specs.Subtrees.{IsRowBuilt}
use Rattle.tree_nodes.proofs.LeanLemmas.{lean_none}

-- a list of no nodes in a block that was free
pub room_built : (old new : Memory) (v : Vec Node) → IsVecIn node_item new v → vec_list node_item new v ≡ []
    → Frame old new [] (v.raw.block ∷ []) → IsRowBuilt [] old new v
room_built old new v held none frame = grind (arith, nat_tests, lean_none)

-- Where there is room, nodes are never refused, and no cursor moves.
module _ (old new : View) (v w : Vec Node) (ns : List Node)
    (stays : amortised_growth 88 v.raw.cap (v.raw.len + length ns) ≡ Stays) where
  abbrev pub growth : Result (Unit {0}) AllocError → Type 0
  growth result = Grows node_item old new v (amortised_growth 88 v.raw.cap (v.raw.len + length ns)) (vec_list node_item old.memory v ++ ns)
      w result

  pub never_refused : (e : AllocError) → growth (Err e) → ⊥
  never_refused e grows = absurd (rw stays at grows.made).0

  pub fills : growth (Ok tt) → SamePlaces old new
  fills grows = (rw stays at grows.made).1
