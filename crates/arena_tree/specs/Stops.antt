-- Why the parser stops.
use Rattle.std.specs.Prelude.{Result, Ok, Err, Option, Some, None}
use Rattle.arena_chunks.specs.Answers.{Answer}
use Rattle.arena_chunks.specs.Answers.Answer.{Refused, Exhausted}
use Rattle.arena_items.specs.declared.room.AllocError.{AllocError}
use Rattle.arena_items.specs.declared.room.AllocError.TheVariants as alloc
use Rattle.arena_tree.specs.declared.stop.Stop.{Stop}
use Rattle.arena_tree.specs.declared.stop.Stop.TheVariants.{AllocErr, OutOfMemory, Text}

abbrev pub stop_of : AllocError → Stop
stop_of (alloc.AllocErr refused) = AllocErr refused
stop_of alloc.OutOfMemory = OutOfMemory
stop_of alloc.CapacityOverflow = OutOfMemory

-- the arena's error, if that is why
abbrev pub cause : Stop → Option AllocError
cause (AllocErr refused) = Some (alloc.AllocErr refused)
cause OutOfMemory = Some alloc.OutOfMemory
cause Text = None

-- This holds if the text is why.
abbrev pub OnText : {X : Type 0} → Result X Stop → Type 0 → Type 0
OnText (Ok x) holds = Unit {0}
OnText (Err (AllocErr refused)) holds = Unit {0}
OnText (Err OutOfMemory) holds = Unit {0}
OnText (Err Text) holds = holds

-- This holds of the arena's answer if that is why.
abbrev pub OnArena : {X : Type 0} → Result X Stop → (Answer → Type 0) → Type 0
OnArena (Ok x) holds = Unit {0}
OnArena (Err (AllocErr refused)) holds = holds (Refused refused)
OnArena (Err OutOfMemory) holds = holds Exhausted
OnArena (Err Text) holds = Unit {0}
