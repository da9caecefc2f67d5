-- Lists of blocks of which each is apart from each of another list.
use Rattle.std.proofs.Common.{zero, suc, List, [], ◌∷◌, ◌++◌, refl, subst, arith, ◌↔◌}
use Rattle.std.specs.List.{Contains}
use Rattle.arena_core.specs.Frame.{IsApart, AreAllApart}
use Rattle.arena_store.specs.declared.block.Block.{Block}
use Rattle.arena_core.proofs.FrameRules.{apart_both, apart_each}

-- from none
pub all_from_none : (bs : List Block) → AreAllApart bs []
all_from_none [] = tt
all_from_none (b ∷ bs) = (tt, all_from_none bs)

-- from the blocks of two lists
pub all_from_both : (bs xs ys : List Block) → AreAllApart bs (xs ++ ys) ↔ (AreAllApart bs xs × AreAllApart bs ys)
all_from_both [] xs ys = (λ apart. (tt, tt), λ both. tt)
all_from_both (b ∷ bs) xs ys =
    let rest = all_from_both bs xs ys in (
      λ apart. let each = apart_each b.addr b.size xs ys apart.0 in let parts = rest.0 apart.1 in
          ((each.0, parts.0), (each.1, parts.1)),
      λ both. (apart_both b.addr b.size xs ys both.0.0 both.1.0, rest.1 (both.0.1, both.1.1)),
    )

-- the blocks of two lists
pub all_of_both : (xs ys others : List Block) → AreAllApart (xs ++ ys) others ↔ (AreAllApart xs others × AreAllApart ys others)
all_of_both [] ys others = (λ apart. (tt, apart), λ both. both.1)
all_of_both (x ∷ xs) ys others =
    let rest = all_of_both xs ys others in (
      λ apart. let parts = rest.0 apart.1 in ((apart.0, parts.0), parts.1),
      λ both. (both.0.0, rest.1 (both.0.1, both.1)),
    )

-- Each block is apart, and each that is in the list is one of them.
pub all_among : (bs others : List Block) (b : Block) → AreAllApart bs others → Contains bs b → IsApart b.addr b.size others
all_among [] others b apart (k, less, is) = absurd (omega arith)
all_among (c ∷ cs) others b apart (zero, less, is) = subst (λ (d : Block). IsApart d.addr d.size others) is apart.0
all_among (c ∷ cs) others b apart (suc k, less, is) = all_among cs others b apart.1 (k, omega arith, is)

pub all_each : (bs others : List Block) → ((b : Block) → Contains bs b → IsApart b.addr b.size others) → AreAllApart bs others
all_each [] others each = tt
all_each (c ∷ cs) others each =
    (each c (0, omega arith, refl), all_each cs others (λ b among. each b (suc among.0, omega (arith, among.1), among.2)))
