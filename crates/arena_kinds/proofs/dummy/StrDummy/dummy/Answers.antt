use Rattle.std.proofs.Common.{refl, [], ◌∷◌}
use Rattle.std.proofs.lemmas.List.Sorted.{IsPermutation-refl}
use Rattle.arena_chunks.specs.Memory.{image}
use Rattle.arena_chunks.proofs.Layers.{no_bytes}
use Rattle.arena_vec.specs.Held.{empty_block}
use Rattle.arena_kinds.proofs.MadeLemmas.{makes_empty}
use Rattle.arena_kinds.proofs.dummy.StrDummy.dummy.Goals as goal

pub returns : goal.returns
returns g c =
    rw c.empty-block.ensures (makes_empty (record {
      held = refl;
      means = no_bytes (image c.args._a.now.memory) 1 0 refl;
      trim = tt;
      deep = IsPermutation-refl (empty_block 1 ∷ []);
    }))
