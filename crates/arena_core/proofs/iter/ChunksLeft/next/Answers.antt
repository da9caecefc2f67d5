use Rattle.std.proofs.lemmas.Bool.Decides.{nat_tests}
use Rattle.std.proofs.Common.{◌≡◌, ◌∙◌, ◌+◌, ◌-◌, ℕ, ap, arith, take_all, length, length-drop, subst}
use Rattle.arena_store.specs.Stored.{oldest, IsOrdered}
use Rattle.std.specs.List.{All}
use Rattle.std.proofs.lemmas.List.Elements.{All-head, All-drop}
use Rattle.arena_core.proofs.WalkLemmas.{newest_first, table_ordered, left_newest}
use Rattle.arena_core.proofs.iter.ChunksLeft.next.Goals as goal

pub invariant_of-self : goal.invariant_of-self
invariant_of-self c =
    let walk = c.args.self.now in
    record {
      within = walk.within;
      bound = walk.bound;
      ordered = rw c.take.ensures.after (newest_first walk.newest c.in-Some.newest walk.older.now.items c.in-Some.ensures.value
          walk.ordered).1;
    }

pub returns-in-Some : goal.returns-in-Some
returns-in-Some c = grind (arith, nat_tests, newest_first, left_newest, take_all, length-drop)

pub returns : goal.returns
returns c =
    let walk = c.args.self.now in
    let items = walk.older.now.items in
    let told = c.used_part.ensures in
    let next : walk.left ≡ walk.left - 1 + 1 = omega (arith, c.if-self-eq0.false) in
    let is = ap (λ (n : ℕ). oldest n items) next ∙ told.1 in (
      told.0,
      rw (← c.in_default.ensures.value, c.take.ensures.after) is,
      All-head IsOrdered told.0 (oldest (walk.left - 1) items) (subst (All IsOrdered) is (All-drop IsOrdered (length items - walk.left) items
          (table_ordered walk.newest items c.in_default.ensures.value walk.ordered))),
      (told.2, told.3, told.4),
    )
