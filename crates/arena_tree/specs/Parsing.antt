-- What parsing a text returns, and what it takes.
use Rattle.std.specs.Prelude.{◌≡◌, ℕ, ◌+◌, ◌*◌, ◌^◌, ◌≤◌, true, false, List, [], length, Option, Some, None, Result, Ok, Err}
use Rattle.arena_chunks.specs.Source.{View}
use Rattle.arena_chunks.specs.Answers.Answer.{Refused as NotPlaced, Exhausted}
use Rattle.arena_chunks.specs.Frame.{Frame}
use Rattle.arena_chunks.specs.Asking.{AsksWithin, IsStarved, IsFull, IsCounted}
use Rattle.arena_items.specs.Costs.{used, KeepsKind}
use Rattle.tree_rules.specs.Trees.{Stmts}
use Rattle.tree_rules.specs.Refusals.{TreeOf}
use Rattle.tree_rules.specs.declared.refused.Refused.{Refused}
use Rattle.tree_rules.specs.declared.refused.Refused.TheVariants as refused
use Rattle.arena_tree.specs.StmtsAt.{AreBuilt}
use Rattle.arena_tree.specs.Stopping.{ProgramEnds}
use Rattle.arena_tree.specs.declared.stop.Stop.{Stop}
use Rattle.arena_tree.specs.declared.stop.Stop.TheVariants as stop
use Rattle.arena_tree.specs.declared.tree.Tree.{Tree}
use Rattle.arena_tree.specs.declared.tree.TreeErr.{TreeErr}
use Rattle.arena_tree.specs.declared.tree.TreeErr.TheVariants.{Syntax, TooDeep, NumberTooBig, AllocErr, OutOfMemory}

-- the most bytes of the arena that the tree of a text takes
abbrev pub parse_bytes : ℕ → ℕ
parse_bytes length = 1024 * (length + 1)

-- A call takes at most `bytes` of the arena, asks for chunks within that, and the arena keeps its kind. No chunk was
-- freed, and the newest data end rose by at most twice as much as the arena's bytes.
pub record TakesAtMost (bytes : ℕ) (old new : View) : Type 0 where
  pub takes : used new ≤ used old + bytes
  pub asks : AsksWithin (used old + bytes) old new
  pub kind : KeepsKind old.memory new.memory

-- Why a block was refused in a call that takes at most `bytes`: the arena grows and was starved, or it doesn't and has
-- fewer. At least `refused` refusals were the source's.
pub record IsShortOf (bytes refused : ℕ) (old new : View) : Type 0 where
  pub counted : IsCounted refused old new
  pub starved : old.memory.state.is_growing ≡ true → IsStarved (2 ^ 62) old new
  pub full : old.memory.state.is_growing ≡ false → IsFull (used old + bytes) old

-- a refusal of the text as an error
abbrev pub error_for : Refused → TreeErr
error_for (refused.Syntax at) = Syntax at
error_for (refused.TooDeep at) = TooDeep at
error_for (refused.NumberTooBig at) = NumberTooBig at

-- the text is a program
abbrev pub IsProgramText : List ℕ → Type 0
IsProgramText bytes = (trees : Stmts) × TreeOf bytes (Ok trees)

-- the error where the parser stopped, if the text is refused or not
abbrev pub unplaced_by : Option Refused → Stop → TreeErr
unplaced_by (Some why) stop = error_for why
unplaced_by None (stop.AllocErr refused) = AllocErr refused
unplaced_by None stop.OutOfMemory = OutOfMemory
unplaced_by None stop.Text = OutOfMemory

-- A text's tree is placed on blocks that were free and are apart from each other; or the text is refused, and leaves this;
-- or it is a program, and the block that it asks for next has no place.
abbrev pub ParsesLeaving : (View → View → Type 0) → List ℕ → View → View → Result Tree TreeErr → Type 0
ParsesLeaving Leaves bytes old new (Ok t) = (trees : Stmts) × TreeOf bytes (Ok trees) × AreBuilt trees old.memory new.memory t.stmts
ParsesLeaving Leaves bytes old new (Err (Syntax at)) = TreeOf bytes (Err (refused.Syntax at)) × Leaves old new
ParsesLeaving Leaves bytes old new (Err (TooDeep at)) = TreeOf bytes (Err (refused.TooDeep at)) × Leaves old new
ParsesLeaving Leaves bytes old new (Err (NumberTooBig at)) = TreeOf bytes (Err (refused.NumberTooBig at)) × Leaves old new
ParsesLeaving Leaves bytes old new (Err (AllocErr k)) = IsProgramText bytes × ProgramEnds bytes old new (NotPlaced k)
    × IsShortOf (parse_bytes (length bytes)) k old new × Frame old.memory new.memory [] []
ParsesLeaving Leaves bytes old new (Err OutOfMemory) =
    IsProgramText bytes × ProgramEnds bytes old new Exhausted × Frame old.memory new.memory [] []

-- all as it was, since the text is judged before anything is placed; or all that was in use, since it is judged meanwhile
abbrev pub Parses : List ℕ → View → View → Result Tree TreeErr → Type 0
Parses = ParsesLeaving (λ old new. new ≡ old)

abbrev pub ParsesInOnePass : List ℕ → View → View → Result Tree TreeErr → Type 0
ParsesInOnePass = ParsesLeaving (λ old new. Frame old.memory new.memory [] [])
