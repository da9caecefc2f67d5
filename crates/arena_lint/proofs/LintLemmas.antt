-- The report of one text.
use Rattle.std.proofs.lemmas.Bool.Decides.{nat_tests}
use Rattle.std.proofs.Common.{◌≡◌, ℕ, ◌+◌, ◌^◌, ◌≤◌, List, [], ◌∷◌, length, refl, ap, inl, inr, true, false, Bool, Ok, Err, Some, None, arith}
use Rattle.std.specs.Prelude.{◌⊎◌, Option, IfNone}
use Rattle.arena_rules.proofs.AskingLemmas.{asks_more}
use Rattle.arena_chunks.specs.Memory.{Memory}
use Rattle.arena_chunks.specs.Source.{View}
use Rattle.arena_chunks.specs.Asking.{IsStarved, IsFull}
use Rattle.arena_items.specs.Costs.{used}
use Rattle.arena_items.specs.declared.room.AllocError.{AllocError}
use Rattle.arena_items.specs.declared.room.AllocError.TheVariants as alloc
use Rattle.arena_symbols.specs.Named.{AreNames, AreNewNames, all_credit}
use Rattle.arena_symbols.specs.Names.{names_in}
use Rattle.arena_symbols.specs.Scoping.{pair_count}
use Rattle.arena_symbols.specs.Tables.{entry_item, scopes_in}
use Rattle.arena_symbols.specs.declared.names.Names.{Names as Known}
use Rattle.arena_symbols.proofs.Layers.{all_turned}
use Rattle.tree_rules.specs.Report.{findings_of}
use Rattle.tree_rules.specs.Trees.{Stmts}
use Rattle.tree_rules.specs.Refusals.{TreeOf}
use Rattle.tree_rules.specs.Weights.{weights}
use Rattle.arena_tree.specs.Asking.{ProgramRan}
use Rattle.arena_tree.specs.Parsing.{ParsesInOnePass, TakesAtMost, IsProgramText, parse_bytes}
use Rattle.arena_tree.specs.declared.tree.Tree.{Tree}
use Rattle.arena_tree.specs.declared.tree.TreeErr.{TreeErr}
use Rattle.arena_tree.specs.declared.tree.TreeErr.TheVariants as tree
use Rattle.tree_rules.specs.declared.finding.Finding.{Finding}
use Rattle.lint_reports.specs.Taking.{Taking}
use Rattle.lint_reports.specs.Reports.{Reports, said}
use Rattle.lint_reports.specs.declared.report.FileReport.{FileReport}
use Rattle.lint_reports.specs.declared.report.FileReport.TheVariants.{Checked, Full, Refused, OutOfMemory}
use Rattle.arena_lint.specs.Knowing.{Knows}
use Rattle.arena_lint.specs.Linting.{Lints, Checks, StopsInTree, StopsInWalk, PlacesTree, WalksOver, lint_bytes, no_place, unparsed_by}
use Rattle.arena_lint.specs.Spending.{Spends, Takes, numbers_in, walk_bytes}
use Rattle.arena_lint.specs.Stopping.{WalksFrom}
use Rattle.arena_lint.proofs.KnowLemmas.{no_names}
use Rattle.arena_lint.proofs.SpendingLemmas.{spends_then, spends_nothing}

-- ---- Nothing

-- Handles that place nothing: they know no name, in any arena.
pub record IsNothing (k : Known) : Type 0 where
  pub known : (m : Memory) → AreNames m k
  pub knows : (m : Memory) → Knows m k ([] ∷ [])
  pub names : (m : Memory) → names_in m k.symbols ≡ []
  pub scopes : (m : Memory) → scopes_in entry_item m k.scopes ≡ [] ∷ []
  pub credit : all_credit k ≡ 0

pub nothing_known : {k : Known} → AreNewNames k → IsNothing k
nothing_known {k} new = grind (arith, nat_tests, no_names, all_turned)

-- ---- A walk over all of a text

-- A text has at least as many bytes as its tree's weight.
abbrev AreLight : Type 0
AreLight = (bytes : List ℕ) (ss : Stmts) → TreeOf bytes (Ok ss) → weights ss ≤ length bytes

-- A walk from nothing spends what the statements take.
pub nothing_spends : {old new : View} {k l : Known} {error : Option AllocError} {bytes : List ℕ} (trees : Stmts) → AreLight
    → length bytes ≤ 2 ^ 24 → IsNothing k → TreeOf bytes (Ok trees) → Takes (weights trees) old new k l error
    → Spends (walk_bytes (weights trees)) 0 0 old new error
nothing_spends {old} {k = k} {bytes = bytes} trees light small none is takes =
    let one : numbers_in old.memory k ≡ 1 = omega (
      arith,
      ap (λ (l : List (List ℕ)). length l) (none.names old.memory),
      ap (λ (l : List (List (ℕ × ℕ))). pair_count l + length l) (none.scopes old.memory),
    ) in
    spends_then (spends_nothing {bytes = 0} tt) (takes.spends (omega (arith, one, small, light bytes trees is)))
    (omega (arith, none.credit)) (omega (arith, none.credit))

-- ---- What is spent

-- A text's tree was not refused.
pub parse_spends : {few all : ℕ} {old new : View} → few ≤ all → TakesAtMost few old new
    → Spends all 0 0 old new None
parse_spends {few = x0} {all = x1} {old = x2} {new = x3} less takes = grind (arith, nat_tests, asks_more)

-- ---- Reports

module _ {bytes : List ℕ} {old new : View} {error : Option AllocError} (unused : used old ≡ 0)
    (spends : Spends (lint_bytes (length bytes)) 0 0 old new error) where
  -- No more was taken than may be, on an arena of which nothing was used.
  lints : (report : FileReport) → Reports bytes report → IfNone (said report) (IsProgramText bytes)
      → ((report ≡ Full) ⊎ (report ≡ Refused) → StopsInTree bytes old new ⊎ StopsInWalk bytes old new)
      → ((findings : List Finding) → report ≡ Checked findings → WalksOver bytes old new)
      → (report ≡ Full → IsFull (lint_bytes (length bytes)) old) → (report ≡ Refused → IsStarved (2 ^ 62) old new)
      → Lints bytes old new report
  lints report reports stopped denied walked full refused = grind (arith, nat_tests, asks_more)

  -- no place for a block
  lints_unplaced : (growing : Bool) → new.memory.state.is_growing ≡ growing → IsProgramText bytes
      → StopsInTree bytes old new ⊎ StopsInWalk bytes old new → (old.memory.state.is_growing ≡ true → IsStarved (2 ^ 62) old new)
      → (old.memory.state.is_growing ≡ false → IsFull (used old + lint_bytes (length bytes)) old) → Lints bytes old new (no_place growing)
  lints_unplaced growing is program denied starved full = grind (arith, nat_tests, lints)

  -- A text that has no tree is reported so.
  pub unparsed : (why : TreeErr) → ParsesInOnePass bytes old new (Err why) → TakesAtMost (parse_bytes (length bytes)) old new
      → Lints bytes old new (unparsed_by new.memory.state.is_growing why)
  unparsed (tree.AllocErr k) parsed takes = let short = parsed.2 in
      lints_unplaced new.memory.state.is_growing refl parsed.0 (inl (record { refusals = k; ends = parsed.1; takes = takes.takes })) short.starved
      (λ still. let full = short.full still in record { still = full.still; short = omega (arith, full.short) })
  unparsed why parsed takes = grind (arith, nat_tests, lints)

-- What a walk over a text spends.
abbrev Walks : List ℕ → View → View → Option AllocError → Type 0
Walks bytes old new error = (trees : Stmts) → TreeOf bytes (Ok trees) → Spends (walk_bytes (weights trees)) 0 0 old new error

-- and what it asks for
abbrev Asks : List ℕ → View → View → Option AllocError → Type 0
Asks bytes old new error = (trees : Stmts) → TreeOf bytes (Ok trees) → WalksFrom trees old new error

placed : {bytes : List ℕ} {old mid : View} {t : Tree} (parsed : ParsesInOnePass bytes old mid (Ok t))
    → ProgramRan bytes old mid → TakesAtMost (parse_bytes (length bytes)) old mid → PlacesTree bytes parsed.0 old mid
placed parsed ran takes = record { tree = parsed.1; ran = ran; takes = takes.takes }

-- A program that was walked over.
module _ {bytes : List ℕ} {old mid new : View} {t : Tree} (light : AreLight) (unused : used old ≡ 0)
    (parsed : ParsesInOnePass bytes old mid (Ok t)) (takes : TakesAtMost (parse_bytes (length bytes)) old mid) where
  all_spends : {error : Option AllocError} → Walks bytes mid new error
      → Spends (lint_bytes (length bytes)) 0 0 old new error
  all_spends walks = let few = light bytes parsed.0 parsed.1 in
      spends_then (parse_spends {all = parse_bytes (length bytes)} (omega arith) takes) (walks parsed.0 parsed.1)
      (omega (arith, few)) (omega (arith, few))

  pub checked : {F : Type 0} (taking : Taking F) {first found : F} → ProgramRan bytes old mid
      → ((trees : Stmts) → TreeOf bytes (Ok trees) → taking.gains first found (findings_of trees)) → Walks bytes mid new None
      → Asks bytes mid new None → Checks taking bytes old new first found
  checked taking ran gained walks asks =
      let from = asks parsed.0 parsed.1 in
      let over : WalksOver bytes old new = record {
        trees = parsed.0;
        mid = mid;
        tree = placed parsed ran takes;
        first = from.first;
        last = from.last;
        none = from.none;
        did = from.goes.did refl;
      } in
      record {
        findings = findings_of parsed.0;
        gained = gained parsed.0 parsed.1;
        lints = grind (arith, nat_tests, lints, all_spends, over);
      }

  pub unplaced : (k : ℕ) → ProgramRan bytes old mid → Walks bytes mid new (Some (alloc.AllocErr k))
      → Asks bytes mid new (Some (alloc.AllocErr k)) → Lints bytes old new (no_place new.memory.state.is_growing)
  unplaced k ran walks asks =
      let spent = all_spends walks in
      let from = asks parsed.0 parsed.1 in
      lints_unplaced unused spent new.memory.state.is_growing refl (parsed.0, parsed.1)
      (inr (record {
        trees = parsed.0;
        mid = mid;
        tree = placed parsed ran takes;
        first = from.first;
        none = from.none;
        refusals = k;
        stops = from.goes.stopped k refl;
      }))
      (λ growing. record { growing = growing; cause = grind (arith, spent.starved growing k refl) })
      (λ still. let short = spent.full still k refl in record { still = still; short = omega (arith, short.short) })

  pub exhausted : Walks bytes mid new (Some alloc.OutOfMemory) → Lints bytes old new OutOfMemory
  exhausted walks = grind (arith, nat_tests, lints, all_spends)

  pub fits : Walks bytes mid new (Some alloc.CapacityOverflow) → ⊥
  fits walks = (all_spends walks).fits refl
