-- A readable block and its ranges are in use.
use Rattle.std.proofs.Common.{ℕ, ◌+◌, ◌<◌, ◌≤◌, arith, refl, IsTrue, Bool, true, false}
use Rattle.std.specs.Prelude.{◌==◌, ◌||◌, ◌&&◌}
use Rattle.std.proofs.lemmas.Bool.Decides.{nat_tests}
use Rattle.arena_rules.specs.State.{State, is_range_used, is_place_used}
use Rattle.arena_rules.proofs.UsedLemmas.{used_part}
use Rattle.arena_store.specs.Memory.{is_readable}
use Rattle.arena_store.specs.declared.block.Block.{Block}
use Rattle.arena_core.specs.BlockCalls.{place_of}

pub readable_part : (state : State) (block : Block) (p n : ℕ) → IsTrue (is_readable state block) → block.addr ≤ p
    → p + n ≤ block.addr + block.size → 0 < n → IsTrue (is_range_used state.chunks p n)
readable_part state block p n readable low high some =
    used_part block.addr block.size p n state.chunks low high
    (filled block.size (block.generation == state.generation) (is_range_used state.chunks block.addr block.size) (omega arith) readable)
  where
    filled : (n : ℕ) (b c : Bool) → 0 < n → IsTrue (n == 0 || (b && c)) → IsTrue c
    filled n b c some readable = grind (arith, nat_tests)

-- A readable block is in use or empty.
pub readable_used : (state : State) (b : Block) → IsTrue (is_readable state b) → IsTrue (is_place_used state (place_of b))
readable_used state b = go (b.size == 0) (b.generation == state.generation) (is_range_used state.chunks b.addr b.size)
  where
    go : (none same used : Bool) → IsTrue (none || (same && used)) → IsTrue (none || used)
    go true same used readable = refl
    go false true used readable = readable
    go false false used readable = cc
