-- What the calls of a walk bring into use, and why one is refused.
use Rattle.std.specs.Prelude.{◌≡◌, ◌≢◌, ℕ, ◌+◌, ◌*◌, ◌≤◌, true, false, length, Option, Some, None, IfSome}
use Rattle.arena_chunks.specs.Memory.{Memory}
use Rattle.arena_chunks.specs.Source.{View}
use Rattle.arena_chunks.specs.Asking.{AsksWithin, IsFull}
use Rattle.arena_items.specs.Costs.{used, KeepsKind}
use Rattle.arena_items.specs.declared.room.AllocError.{AllocError}
use Rattle.arena_items.specs.declared.room.AllocError.TheVariants.{AllocErr, CapacityOverflow, OutOfMemory}
use Rattle.arena_symbols.specs.Interner.{most_texts}
use Rattle.arena_symbols.specs.Names.{names_in}
use Rattle.arena_symbols.specs.Scoping.{pair_count}
use Rattle.arena_symbols.specs.Tables.{entry_item, scopes_in}
use Rattle.arena_symbols.specs.declared.names.Names.{Names as Known}
use Rattle.arena_tree.specs.Spending.{IsStarvedBehind}
use Rattle.arena_symbols.specs.Named.{all_credit}

-- the most bytes of the arena that a walk over statements of this weight takes
abbrev pub walk_bytes : ℕ → ℕ
walk_bytes weight = 1536 * weight

-- Calls that may bring `bytes` into use, less what is saved afterwards, and more by what was saved before. They ask for
-- no more than that takes. If one is refused, an arena that grows was starved, and any other has fewer bytes. The calls
-- never run out of numbers.
pub record Spends (bytes before after : ℕ) (old new : View) (error : Option AllocError) : Type 0 where
  pub takes : used new + after ≤ used old + (bytes + before)
  pub asks : AsksWithin (used old + (bytes + before)) old new
  pub kind : KeepsKind old.memory new.memory
  pub fits : error ≢ Some CapacityOverflow
  pub starved : old.memory.state.is_growing ≡ true → (k : ℕ) → error ≡ Some (AllocErr k) → IsStarvedBehind old new
  pub full : old.memory.state.is_growing ≡ false → (k : ℕ) → error ≡ Some (AllocErr k) → IsFull (used old + (bytes + before)) old

-- the texts that have numbers, the pairs of all scopes, and the scopes, in one count
abbrev pub numbers_in : Memory → Known → ℕ
numbers_in m k =
    length (names_in m k.symbols) + (pair_count (scopes_in entry_item m k.scopes) + length (scopes_in entry_item m k.scopes))

-- A walk over statements adds at most twice their weight to the count. If there may be that many, it spends what they
-- take.
pub record Takes (weight : ℕ) (old new : View) (k l : Known) (error : Option AllocError) : Type 0 where
  pub numbers : error ≡ None → numbers_in new.memory l ≤ numbers_in old.memory k + 2 * weight
  pub spends : numbers_in old.memory k + 2 * weight ≤ most_texts
      → Spends (walk_bytes weight) (all_credit k) (all_credit l) old new error

-- an error, if there is one, is lack of memory alone
abbrev pub IsExhausted : Option AllocError → Type 0
IsExhausted error = IfSome error (λ e. e ≡ OutOfMemory)
