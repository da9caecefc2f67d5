-- Blocks that are apart, in another order and in either direction.
use Rattle.std.proofs.Common.{List, [], ◌∷◌, ◌++◌}
use Rattle.std.specs.Prelude.{IsPermutation}
use Rattle.std.specs.List.{AllByRecursion}
use Rattle.std.proofs.lemmas.List.Elements.{All-from_recursion, recursion_from_All}
use Rattle.std.proofs.lemmas.List.Sorted.{All-permutation, Contains-permutation, IsPermutation-sym}
use Rattle.arena_chunks.specs.Frame.{IsApart, AreAllApart}
use Rattle.arena_store.specs.declared.block.Block.{Block}
use Rattle.arena_chunks.proofs.Layers.{blocks_turned, all_of_both, all_among, all_each}

-- What holds of each in a list holds of each in another order.
pub all_in_order : {A : Type 0} (P : A → Type 0) (xs ys : List A) → IsPermutation xs ys → AllByRecursion P xs → AllByRecursion P ys
all_in_order P xs ys same all = recursion_from_All P ys (All-permutation P xs ys same (All-from_recursion P xs all))

pub apart_to : (bs others : List Block) → AreAllApart bs others → AllByRecursion (λ (b : Block). IsApart b.addr b.size others) bs
apart_to [] others apart = tt
apart_to (b ∷ bs) others apart = (apart.0, apart_to bs others apart.1)

pub apart_turned : (bs cs others : List Block) → IsPermutation bs cs → AreAllApart bs others → AreAllApart cs others
apart_turned bs cs others same apart = all_each cs others (λ c among.
    all_among bs others c apart (Contains-permutation cs bs c (IsPermutation-sym bs cs same) among))

-- If the blocks of two lists are apart from others, those of each list are.
pub apart_front : (bs cs others : List Block) → AreAllApart (bs ++ cs) others → AreAllApart bs others × AreAllApart cs others
apart_front bs cs others = (all_of_both bs cs others).0

-- the first of the others, and the rest
columns : (bs cs : List Block) (c : Block) → AreAllApart bs (c ∷ cs) → IsApart c.addr c.size bs × AreAllApart bs cs
columns [] cs c all = (tt, tt)
columns (b ∷ bs) cs c all = let rest = columns bs cs c all.1 in ((blocks_turned b c all.0.0, rest.0), (all.0.1, rest.1))

-- If blocks are apart from others, the others are apart from them.
pub all_turned : (bs cs : List Block) → AreAllApart bs cs → AreAllApart cs bs
all_turned bs [] all = tt
all_turned bs (c ∷ cs) all = let parts = columns bs cs c all in (parts.0, all_turned bs cs parts.1)
