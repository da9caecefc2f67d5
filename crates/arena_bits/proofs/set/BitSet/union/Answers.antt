use Rattle.std.proofs.Common.{◌≡◌, ◌&&◌, eqb, false, arith}
use Rattle.std.proofs.lemmas.Bool.Decides.{nat_tests}
use Rattle.arena_chunks.specs.Frame.{AreBlocksApart}
use Rattle.arena_store.specs.declared.block.Block.{Block}
use Rattle.arena_bits.specs.Sets.{AreOneOrApart}

-- blocks that the test finds to be different
two_apart : (one other : Block)
    → false ≡ (eqb one.generation other.generation && (eqb one.addr other.addr && (eqb one.size other.size && eqb one.align other.align)))
    → AreOneOrApart one other → AreBlocksApart one other
two_apart one other two h = grind (arith, nat_tests)
