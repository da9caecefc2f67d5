-- What becomes of a block that is resized, case by case.
use Rattle.std.proofs.Common.{◌≡◌, ℕ, ◌+◌, ◌*◌, ◌%◌, ◌<◌, ◌≤◌, ◌⊎◌, arith, true, false, Some, None}
use Rattle.std.proofs.lemmas.Bool.Decides.{nat_tests}
use Rattle.arena_rules.specs.Rounding.{is_layout}
use Rattle.arena_rules.specs.State.{State, cursor_of}
use Rattle.arena_rules.specs.Search.{place}
use Rattle.arena_rules.specs.Moves.{growth, growing, shrinking, shrink_step}
use Rattle.arena_rules.specs.Moves.Resizing.{Stays, Moves, Anew, Refused}

module _ (state : State) (p size align new_size new_align : ℕ) where
  -- ---- Shrinking

  -- if the alignment doesn't rise, away from the cursor or if little is freed, it stays
  pub shrinks_still : new_align ≤ align → ((p ≡ cursor_of state.chunks → ⊥) ⊎ (2 * shrink_step state size new_size new_align < size))
      → shrinking state p size align new_size new_align ≡ Stays
  shrinks_still low still = grind (arith, nat_tests)

  -- at the cursor it moves up, if that frees at least half of it
  pub shrinks_up : new_align ≤ align → p ≡ cursor_of state.chunks → size ≤ 2 * shrink_step state size new_size new_align
      → shrinking state p size align new_size new_align ≡ Moves (p + shrink_step state size new_size new_align)
  shrinks_up low at half = grind (arith, nat_tests)

  -- to a greater alignment it stays if its address is a multiple of that, and otherwise is allocated again
  pub shrinks_aligned : align < new_align → p % new_align ≡ 0 → shrinking state p size align new_size new_align ≡ Stays
  shrinks_aligned high aligned = grind (arith, nat_tests)

  pub shrinks_by_alloc : align < new_align → (p % new_align ≡ 0 → ⊥) → shrinking state p size align new_size new_align ≡ Anew
  shrinks_by_alloc high apart = grind (arith, nat_tests)

  -- ---- Growing

  -- away from the cursor, or to a greater alignment, it is allocated again
  pub grows_by_alloc : (align < new_align) ⊎ (p ≡ cursor_of state.chunks → ⊥) → growing state p size align new_size new_align ≡ Anew
  grows_by_alloc away = grind (arith, nat_tests)

  -- the block is at the cursor, and its alignment doesn't rise
  pub record IsHere : Type 0 where
    pub low : new_align ≤ align
    pub at : p ≡ cursor_of state.chunks

  -- there it is allocated again without room below it, moves down with room, or is refused if its growth is no layout
  pub grows_full : IsHere → is_layout (growth state size new_size) align ≡ true → place state (growth state size new_size) align ≡ None
      → growing state p size align new_size new_align ≡ Anew
  grows_full is fine none = grind (arith, nat_tests, is)

  pub grows_down : (q : ℕ) → IsHere → is_layout (growth state size new_size) align ≡ true
      → place state (growth state size new_size) align ≡ Some q
      → growing state p size align new_size new_align ≡ Moves q
  grows_down q is fine found = grind (arith, nat_tests, is)

  pub grows_not : IsHere → is_layout (growth state size new_size) align ≡ false → growing state p size align new_size new_align ≡ Refused
  grows_not is large = grind (arith, nat_tests, is)
