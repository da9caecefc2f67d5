-- What becomes of an owner that gives up.
use Rattle.std.specs.Prelude.{◌≡◌}
use Rattle.arena_chunks.specs.declared.allocator.Allocator.{Allocator}
use Rattle.arena_pool.specs.Claiming.{times, with_claimed, with_taken}
use Rattle.arena_pool.specs.Sharing.{Owning}
use Rattle.arena_pool.specs.declared.owners.GaveUp.{GaveUp}
use Rattle.arena_pool.specs.declared.owners.GaveUp.TheVariants.{Stays, Freed}
use Rattle.arena_pool.specs.declared.owners.ShareErr.{ShareErr}
use Rattle.arena_pool.specs.declared.owners.ShareErr.TheVariants.{OutOfMemory}

-- The owner hadn't found word 0 taken, and claims it. Or it finds word 0 taken, claims word 1, and gets what was
-- shared.
abbrev pub IsGivenUp : {C : Type 0} → Owning (Allocator C) → GaveUp C → Type 0
IsGivenUp o (Stays seat) = (seat ≡ with_claimed 0 o.lists) × (times 0 o.lists.taken ≡ 0)
IsGivenUp o (Freed arena seat) = (arena ≡ o.shared) × (seat ≡ with_claimed 1 (with_taken 0 o.lists))

-- what couldn't be shared is returned
abbrev pub IsReturned : {C : Type 0} → Allocator C → ShareErr C → Type 0
IsReturned a (OutOfMemory arena) = arena ≡ a
