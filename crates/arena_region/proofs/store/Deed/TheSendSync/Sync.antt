use Rattle.std.proofs.lemmas.Bool.Decides.{nat_tests}
use Rattle.std.proofs.Common.{arith}
use denote.RattleType.{RattleType}
use denote.Param.Send.{IsSync}
use Rattle.std.specs.declared.alloc.Allocator.{Ghosts}
use Rattle.arena_region.specs.contracts.store.Deed as C

pub sync : (A : RattleType) (g : Ghosts A.Denot) → IsSync (C.the_row A g)
sync A g = grind (arith, nat_tests)
