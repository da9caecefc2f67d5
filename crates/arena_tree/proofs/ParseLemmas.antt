-- What calls on whole trees return and take, by what their parts spend.
use Rattle.std.proofs.lemmas.Bool.Decides.{nat_tests}
use Rattle.std.proofs.Common.{◌≡◌, ℕ, ◌^◌, ◌<◌, ◌≤◌, ◌⊎◌, inl, inr, sym, ◌∙◌, subst, arith, true, Ok, Err, Some, None, List, [], length}
use Rattle.std.specs.Prelude.{Option, Result}
use Rattle.std.proofs.lemmas.Bool.{cases_lt}
use Rattle.arena_rules.specs.State.{allocated_bytes, top_of}
use Rattle.arena_rules.proofs.AskingLemmas.{asks_more}
use Rattle.arena_chunks.specs.Source.{View}
use Rattle.arena_chunks.specs.Answers.{Answer}
use Rattle.arena_chunks.specs.Answers.Answer.{Refused as NotPlaced, Exhausted}
use Rattle.arena_chunks.specs.Frame.{Frame}
use Rattle.arena_items.specs.Asks.{EndsAt}
use Rattle.arena_chunks.specs.Asking.{IsStarved, IsRefusedBySource}
use Rattle.arena_items.specs.Denied.{Layouts}
use Rattle.arena_items.specs.declared.room.AllocError.{AllocError}
use Rattle.arena_items.specs.declared.room.AllocError.TheVariants as alloc
use Rattle.tree_rules.specs.Reading.{refusal_of, refused_by}
use Rattle.tree_rules.specs.Refusals.{TreeOf}
use Rattle.tree_rules.specs.Trees.{Stmts}
use Rattle.tree_rules.specs.declared.refused.Refused.{Refused}
use Rattle.tree_rules.specs.declared.refused.Refused.TheVariants.{Syntax, TooDeep, NumberTooBig}
use Rattle.arena_tree.specs.Spending.{Spends, IsStarvedBehind, Stopped}
use Rattle.tree_rules.specs.Grammar.{Program, spell}
use Rattle.tree_rules.specs.Tokens.{tokens, without_places}
use Rattle.arena_tree.specs.Asking.{program_asks}
use Rattle.arena_tree.specs.Stopping.{ProgramEnds}
use Rattle.arena_tree.specs.Stops.{OnText, OnArena}
use Rattle.arena_tree.specs.declared.stop.Stop.{Stop}
use Rattle.arena_tree.specs.declared.stop.Stop.TheVariants.{AllocErr, OutOfMemory, Text}
use Rattle.arena_tree.specs.declared.tree.Tree.{Tree}
use Rattle.arena_tree.specs.declared.tree.TreeErr.{TreeErr}
use Rattle.arena_tree.specs.declared.tree.TreeErr.TheVariants as tree
use Rattle.std.proofs.lemmas.Option.{none-some}
use Rattle.arena_tree.specs.Parsing.{Parses, ParsesInOnePass, TakesAtMost, IsShortOf, parse_bytes, error_for, unplaced_by}

pub spends_takes : {layouts : Layouts} {few left : ℕ} {old new : View} {error : Option AllocError} (most : ℕ)
    → Spends layouts few 0 left old new error → few ≤ most → TakesAtMost most old new
spends_takes {layouts} {few} {left} {old} {new} most spends less = grind (arith, nat_tests, asks_more)

starved : (old new : View) → old.memory.state.is_growing ≡ true → IsStarvedBehind old new → IsStarved (2 ^ 62) old new
starved old new growing (inl refused) = record { growing = growing; cause = inr (inr refused) }
starved old new growing (inr (inl much)) = record { growing = growing; cause = inr (inl much) }
starved old new growing (inr (inr up)) = record { growing = growing; cause = by (cases_lt (allocated_bytes new.memory.state) (2 ^ 60)) }
  where
    by : (allocated_bytes new.memory.state < 2 ^ 60) ⊎ (2 ^ 60 ≤ allocated_bytes new.memory.state)
        → (2 ^ 62 < top_of old.memory.state.chunks) ⊎ (2 ^ 60 ≤ allocated_bytes new.memory.state) ⊎ IsRefusedBySource old new
    by (inl few) = inl (omega (arith, up, few))
    by (inr much) = inr (inl much)

pub short : {layouts : Layouts} {few : ℕ} {old new : View} (most k : ℕ) → Spends layouts few 0 0 old new (Some (alloc.AllocErr k))
    → few ≤ most → IsShortOf most k old new × Frame old.memory new.memory [] []
short {layouts} {few} {old} {new} most k spends less = grind (arith, nat_tests, starved)

-- ---- Texts that are judged while they are placed, or before

refused_meanwhile : (bytes : List ℕ) (old new : View) (why : Refused) → TreeOf bytes (Err why) → Frame old.memory new.memory [] []
    → ParsesInOnePass bytes old new (Err (error_for why))
refused_meanwhile bytes old new (Syntax at) h frame = (h, frame)
refused_meanwhile bytes old new (TooDeep at) h frame = (h, frame)
refused_meanwhile bytes old new (NumberTooBig at) h frame = (h, frame)

-- why the parser stopped
pub stopped_parses : (bytes : List ℕ) (old new : View) (r : Result Stmts Refused) → TreeOf bytes r → refusal_of bytes ≡ refused_by r
    → (stop : Stop) → OnText {X = List ℕ} (Err stop) (refusal_of bytes ≡ None → ⊥) → Stopped 0 bytes old new stop
    → ((p : Program) → spell p [] ≡ without_places (tokens bytes) → OnArena {X = List ℕ} (Err stop) (EndsAt (program_asks 0 p) [] old new))
    → ParsesInOnePass bytes old new (Err (unplaced_by (refusal_of bytes) stop))
stopped_parses bytes old new (Err why) h is stop text spent ends =
    subst (λ o. ParsesInOnePass bytes old new (Err (unplaced_by o stop))) (sym is) (refused_meanwhile bytes old new why h spent.1)
stopped_parses bytes old new (Ok trees) h is stop text spent ends =
    subst (λ o. ParsesInOnePass bytes old new (Err (unplaced_by o stop))) (sym is)
    (by stop text spent (ends h.program.program h.program.tokens_are))
  where
    ended : (answer : Answer) → EndsAt (program_asks 0 h.program.program) [] old new answer → ProgramEnds bytes old new answer
    ended answer ends = record { program = h.program.program; tokens_are = h.program.tokens_are; ends = ends }

    by : (s : Stop) → OnText {X = List ℕ} (Err s) (refusal_of bytes ≡ None → ⊥) → Stopped 0 bytes old new s
        → OnArena {X = List ℕ} (Err s) (EndsAt (program_asks 0 h.program.program) [] old new) → ParsesInOnePass bytes old new (Err (unplaced_by None s))
    by (AllocErr k) text spent ends =
        let why = short (parse_bytes (length bytes)) k spent.0 (omega arith) in ((trees, h), ended (NotPlaced k) ends, why.0, why.1)
    by OutOfMemory text spent ends = ((trees, h), ended Exhausted ends, spent.1)
    by Text text spent ends = absurd (text is)

-- A text that was judged before isn't refused.
pub judged_parses : (bytes : List ℕ) (old new : View) (result : Result Tree TreeErr)
    → ((r : Result Stmts Refused) → TreeOf bytes r → refusal_of bytes ≡ refused_by r) → refusal_of bytes ≡ None
    → ParsesInOnePass bytes old new result → Parses bytes old new result
judged_parses bytes old new result same none = by result
  where
    no : {P : Type 0} (why : Refused) → TreeOf bytes (Err why) → P
    no why h = absurd (none-some why (sym none ∙ same (Err why) h))

    by : (r : Result Tree TreeErr) → ParsesInOnePass bytes old new r → Parses bytes old new r
    by (Ok t) h = h
    by (Err (tree.Syntax at)) h = no (Syntax at) h.0
    by (Err (tree.TooDeep at)) h = no (TooDeep at) h.0
    by (Err (tree.NumberTooBig at)) h = no (NumberTooBig at) h.0
    by (Err (tree.AllocErr k)) h = h
    by (Err tree.OutOfMemory) h = h
