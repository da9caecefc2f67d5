-- What calls spend one after another.
use Rattle.std.proofs.lemmas.Bool.Decides.{nat_tests}
use Rattle.std.proofs.Common.{◌≡◌, ℕ, ◌+◌, ◌≤◌, refl, arith, Err, Some, None, List}
use Rattle.std.specs.Prelude.{Result, Option, IsErr, IsErrAnd}
use Rattle.std.proofs.lemmas.Option.{none-some, same_Some}
use Rattle.arena_rules.proofs.AskingLemmas.{asks_more, asks_then, refused_after}
use Rattle.arena_chunks.specs.Memory.{Memory}
use Rattle.arena_chunks.specs.Source.{View}
use Rattle.arena_chunks.specs.Frame.{Frame}
use Rattle.arena_store.specs.declared.block.Block.{Block}
use Rattle.arena_chunks.proofs.Layers.{asks_same}
use Rattle.arena_items.specs.Costs.{Costs, used, KeepsKind}
use Rattle.arena_items.specs.declared.room.AllocError.{AllocError}
use Rattle.arena_items.specs.declared.room.AllocError.TheVariants.{CapacityOverflow}
use Rattle.arena_symbols.specs.Paying.{far_up}
use Rattle.arena_symbols.specs.declared.names.Names.{Names as Known}
use Rattle.arena_tree.specs.Spending.{error_of}
use Rattle.arena_lint.specs.Spending.{Spends, Takes, IsExhausted}

pub frame_kind : {old new : Memory} {before after : List Block} → Frame old new before after → KeepsKind old new
frame_kind frame = record { is_growing = frame.is_growing; allocated = frame.allocated }

err_is : {X : Type 0} (result : Result X AllocError) (e : AllocError) → error_of result ≡ Some e → result ≡ Err e
err_is result e is = grind (arith, nat_tests, none-some, same_Some)

-- ---- Spending

-- What is promised of one call of the arena, in these terms.
pub spends_costs : {X : Type 0} {few many before after all left : ℕ} {old new : View} {result : Result X AllocError}
    → Costs far_up few before after old new result → KeepsKind old.memory new.memory → (result ≡ Err CapacityOverflow → ⊥)
    → few + before ≤ many + all
    → few + before + left ≤ many + all + after → Spends many all left old new (error_of result)
spends_costs {few = x0} {many = x1} {before = x2} {all = x3} {old = x4} {new = x5} {result = x6} costs kind fits less paid =
    grind (arith, nat_tests, asks_more, err_is)

-- Calls, and then others.
pub spends_then : {one two all total before between after left : ℕ} {old mid new : View} {error : Option AllocError}
    → Spends one before between old mid None → Spends two between after mid new error → one + two + before ≤ all + total
    → one + two + before + left ≤ all + total + after → Spends all total left old new error
spends_then {one = one} {two = two} {all = all} {total = total} {before = before} {between = between} {after = after} {left = left} {old = old}
    {mid = mid} {new = new} {error = error} first second less paid =
    let within : used mid + (two + between) ≤ used old + (all + total) = omega (arith, first.takes, less) in
    let asks = asks_then (used old + (all + total)) old.memory.state mid.memory.state new.memory.state old.source mid.source new.source
    (asks_more _ _ old.memory.state mid.memory.state old.source mid.source (omega (arith, less)) first.asks)
    (asks_more _ _ mid.memory.state new.memory.state mid.source new.source within second.asks) in
    let after = refused_after _ old.memory.state mid.memory.state old.source mid.source new.source first.asks in
    grind (arith, first, second, paid, within, asks, after)

-- Nothing is done, and memory may run out.
pub spends_nothing : {bytes saved : ℕ} {a : View} {error : Option AllocError} → IsExhausted error
    → Spends bytes saved saved a a error
spends_nothing {bytes = x0} {saved = x1} {a = x2} {error = x3} exhausted = grind (arith, nat_tests, asks_same)

-- ---- Statements

pub takes_then : {one two : ℕ} {old mid new : View} {k j l : Known} {error : Option AllocError} → Takes one old mid k j None
    → Takes two mid new j l error → Takes (one + two) old new k l error
takes_then first second = record {
  numbers = λ is. omega (arith, first.numbers refl, second.numbers is);
  spends = λ few. spends_then (first.spends (omega (arith, few)))
      (second.spends (omega (arith, few, first.numbers refl))) (omega arith) (omega arith);
}

-- More may be taken than was.
pub takes_more : {few : ℕ} {old new : View} {k l : Known} {error : Option AllocError} (many : ℕ) → few ≤ many
    → Takes few old new k l error → Takes many old new k l error
takes_more many less takes = record {
  numbers = λ is. omega (arith, less, takes.numbers is);
  spends = λ room. spends_then (spends_nothing {bytes = 0} tt)
      (takes.spends (omega (arith, less, room))) (omega (arith, less)) (omega (arith, less));
}

-- Nothing is taken, and memory may run out.
pub takes_exhausted : {weight : ℕ} (a : View) (k : Known) (error : Option AllocError) → IsExhausted error → Takes weight a a k k error
takes_exhausted a k error exhausted = record { numbers = λ is. omega arith; spends = λ few. spends_nothing exhausted }

-- what `?` passes on
pub err_takes : {X : Type 0} {weight : ℕ} {old new : View} {k l : Known} (result : Result X AllocError) {e : AllocError}
    → IsErr result × IsErrAnd result (λ f. f ≡ e) → Takes weight old new k l (Some e) → Takes weight old new k l (error_of result)
err_takes result is takes = grind (arith, nat_tests)
