-- What each status says of the input, the output and the arena.
use Rattle.std.specs.Prelude.{◌≡◌, ◌≢◌, ℕ, ◌+◌, ◌^◌, ◌<◌, ◌≤◌, List, [], ◌∷◌, length, codes, Option, ◌⊎◌, Result, Ok, Err}
use Rattle.arena_rules.specs.State.{State}
use Rattle.arena_rules.specs.Causes.{counted}
use Rattle.line_parts.specs.Numbers.{number}
use Rattle.call_rules.specs.Grammar.{CallsOf}
use Rattle.call_rules.specs.Replies.{text_of}
use Rattle.call_rules.specs.Generator.{gen_calls}
use Rattle.call_rules.specs.Summary.{summary_of, summary_text}
use Rattle.call_rules.specs.declared.calls.Call.{Call}
use Rattle.call_rules.specs.declared.calls.Reply.{Reply}
use Rattle.arena_chunks.specs.Source.{View}
use Rattle.arena_runs.specs.Runs.{Runs, RunsFirst}
use Rattle.arena_store.specs.declared.block.Block.{Block}
use Rattle.arena_calls.specs.Streams.{Writes, WritesPart}
use Rattle.arena_calls.specs.ReadAll.{limit, TakesFront, TakesWhole}
use Rattle.arena_calls.specs.declared.status.Status.{Status}
use Rattle.arena_calls.specs.declared.status.Status.TheVariants.{Done, Usage, BadLine, OutOfMemory, ReadFault, WriteFault, InputTooLong}

-- What is left of the input, what the output has taken, and how often either has failed, at most 2 ^ 64 - 1; and the
-- arena with its source.
pub record Outside : Type 0 where
  pub left : Option (List ℕ)
  pub read_faults : ℕ
  pub written : Option (List ℕ)
  pub write_faults : ℕ
  pub arena : View

-- all of these, from the parts in this order
abbrev pub outside : Option (List ℕ) → ℕ → Option (List ℕ) → ℕ → View → Outside
outside left read_faults written write_faults arena = record {
  left = left;
  read_faults = read_faults;
  written = written;
  write_faults = write_faults;
  arena = arena;
}

-- no read and no write has failed
pub record HasNoFault (old new : Outside) : Type 0 where
  pub reads : new.read_faults ≡ old.read_faults
  pub writes : new.write_faults ≡ old.write_faults

-- one read has failed, and no write
pub record HasReadFault (old new : Outside) : Type 0 where
  pub reads : new.read_faults ≡ counted old.read_faults 1
  pub writes : new.write_faults ≡ old.write_faults

-- one write has failed, and no read
pub record HasWriteFault (old new : Outside) : Type 0 where
  pub reads : new.read_faults ≡ old.read_faults
  pub writes : new.write_faults ≡ counted old.write_faults 1

-- no fault but the one that the status reports
abbrev pub FaultsBy : Status → Outside → Outside → Type 0
FaultsBy ReadFault = HasReadFault
FaultsBy WriteFault = HasWriteFault
FaultsBy status = HasNoFault

-- nothing was run or written
pub record IsUntouched (old new : Outside) : Type 0 where
  pub arena : new.arena ≡ old.arena
  pub written : new.written ≡ old.written

-- the whole input was read, and it was these bytes if it reports them
pub record ReadsWhole (old new : Outside) (bytes : List ℕ) : Type 0 where
  pub told : TakesWhole old.left new.left bytes
  pub small : length bytes ≤ limit

-- the whole input was read, and its lines are this
pub record ReadsAs {Read : Type 0} (reads : List ℕ → Result Read ℕ → Type 0) (old new : Outside) (read : Read) : Type 0 where
  pub bytes : List ℕ
  pub whole : ReadsWhole old new bytes
  pub lines : reads bytes (Ok read)

-- whether a text was written whole, or a part of it
abbrev pub IsWritten : Type 1
IsWritten = Option (List ℕ) → Option (List ℕ) → List ℕ → Type 0

-- The text was written, or a first part of it and then writing failed once.
abbrev pub Prints : List ℕ → Status → Option (List ℕ) → ℕ → Option (List ℕ) → ℕ → Type 0
Prints text Done old before new after = Writes old new text × (after ≡ before)
Prints text WriteFault old before new after = WritesPart old new text × (after ≡ counted before 1)
Prints text _ old before new after = ⊥

-- ---- How a word ends that reads a whole input, runs it, and prints

-- What the word reads bytes as, or by the number of which line it refuses them; that what was read was run, and how
-- much of the text of that was written; that nothing was run; and what is left where memory ran out.
pub record Word (Read : Type 0) : Type 1 where
  pub reads : List ℕ → Result Read ℕ → Type 0
  pub ran : Outside → Outside → Read → IsWritten → Type 0
  pub unrun : Outside → Outside → Type 0
  pub short : Outside → Outside → Type 0

-- what each status says of all but the faults
abbrev pub LeavesAs : {Read : Type 0} → Word Read → Status → Outside → Outside → Type 0
LeavesAs word Done old new = (read : _) × ReadsAs word.reads old new read × word.ran old new read Writes
LeavesAs word Usage old new = ⊥
LeavesAs word (BadLine n) old new = word.unrun old new × ((bytes : List ℕ) × ReadsWhole old new bytes × word.reads bytes (Err n))
LeavesAs word OutOfMemory old new = word.short old new
LeavesAs word ReadFault old new = word.unrun old new × TakesFront old.left new.left (λ n. n ≤ limit)
LeavesAs word WriteFault old new = (read : _) × ReadsAs word.reads old new read × word.ran old new read WritesPart
LeavesAs word InputTooLong old new = word.unrun old new × TakesFront old.left new.left (λ n. n ≡ limit + 1)

abbrev pub EndsAs : {Read : Type 0} → Word Read → Status → Outside → Outside → Type 0
EndsAs word status old new = FaultsBy status old new × LeavesAs word status old new

-- the status for bytes that have this reading
abbrev pub status_of : {Read : Type 0} → Result Read ℕ → Status
status_of (Ok read) = Done
status_of (Err n) = BadLine n

-- ---- A run of the input's lines

-- the lines are these calls
abbrev pub ReadsCalls : Outside → Outside → List Call → Type 0
ReadsCalls = ReadsAs CallsOf

-- what is written of a run, by its replies and the state after it
abbrev pub Told : Type 0
Told = List Reply → State → List ℕ

-- The calls were run, and the text of what they gave was written whole or in part, as this says.
pub record RunsTo (old new : Outside) (calls : List Call) (text : Told) (Is : IsWritten) : Type 0 where
  pub replies : List Reply
  pub blocks : List (ℕ × Block)
  pub runs : Runs old.arena new.arena calls replies blocks
  pub written : Is old.written new.written (text replies new.arena.memory.state)

-- the first `done` of these calls were run, and nothing was written
pub record StopsIn (old new : Outside) (calls : List Call) : Type 0 where
  pub done : ℕ
  pub runs : RunsFirst old.arena new.arena calls done
  pub written : new.written ≡ old.written

-- a line for each reply
abbrev pub reply_lines : Told
reply_lines replies state = text_of replies

-- The whole input was read, its lines are calls, and they were run.
pub record RunsInput (left now_left : Option (List ℕ)) (entry exit : View) (replies : List Reply) (held : List (ℕ × Block)) : Type 0 where
  pub bytes : List ℕ
  pub told : TakesWhole left now_left bytes
  pub small : length bytes ≤ limit
  pub calls : List Call
  pub lines : CallsOf bytes (Ok calls)
  pub runs : Runs entry exit calls replies held

-- memory ran out before the first call was run, and no more was taken than an input may have
pub record StopsBefore (old new : Outside) : Type 0 where
  pub untouched : IsUntouched old new
  pub front : TakesFront old.left new.left (λ n. n ≤ limit)

-- A run of lines, of which this is written. Where memory runs out during the run or after it, the first calls were run,
-- possibly none.
abbrev pub calls_word : (Outside → Outside → List Call → IsWritten → Type 0) → Word (List Call)
calls_word Ran = record {
  reads = CallsOf;
  ran = Ran;
  unrun = IsUntouched;
  short = λ old new. StopsBefore old new ⊎ ((calls : List Call) × ReadsCalls old new calls × StopsIn old new calls);
}

abbrev pub EndsWith : (Outside → Outside → List Call → IsWritten → Type 0) → Status → Outside → Outside → Type 0
EndsWith Ran = EndsAs (calls_word Ran)

-- nothing is written, so that the run can't end as one that ran all calls
abbrev pub EndsUnwritten : Status → Outside → Outside → Type 0
EndsUnwritten = EndsWith (λ old new calls Is. ⊥)

-- the text of the replies is written
abbrev pub Ends : Status → Outside → Outside → Type 0
Ends = EndsWith (λ old new calls. RunsTo old new calls reply_lines)

-- ---- A run of calls from a number

-- the summary's eight lines
abbrev pub summary_lines : Told
summary_lines replies state = summary_text (summary_of replies state)

-- The input isn't read, so there is no other status.
abbrev pub GenLeaves : ℕ → ℕ → Status → Outside → Outside → Type 0
GenLeaves start count Done old new = RunsTo old new (gen_calls start count) summary_lines Writes
GenLeaves start count OutOfMemory old new = IsUntouched old new ⊎ StopsIn old new (gen_calls start count)
GenLeaves start count WriteFault old new = RunsTo old new (gen_calls start count) summary_lines WritesPart
GenLeaves start count status old new = ⊥

abbrev pub GenEnds : ℕ → ℕ → Status → Outside → Outside → Type 0
GenEnds start count status old new = FaultsBy status old new × (new.left ≡ old.left) × GenLeaves start count status old new

-- ---- What the words ask for

abbrev pub AsksCalls : List (List ℕ) → Type 0
AsksCalls words = words ≡ codes "calls" ∷ []

-- `count` calls, a million at most, from this start, each number in its digits
pub record AsksGen (words : List (List ℕ)) (start count : ℕ) : Type 0 where
  pub all : words ≡ codes "gen" ∷ number start ∷ number count ∷ []
  pub start_fits : start < 2 ^ 64
  pub most : count ≤ 1000000

-- The run ends as the words ask. Other words are no command, and nothing is touched.
pub record EndsBy (words : List (List ℕ)) (status : Status) (old new : Outside) : Type 0 where
  pub calls : AsksCalls words → Ends status old new
  pub gen : (start count : ℕ) → AsksGen words start count → GenEnds start count status old new
  pub other : (AsksCalls words → ⊥) → ((start count : ℕ) → AsksGen words start count → ⊥)
      → (status ≡ Usage) × (new ≡ old)

-- ---- Where nothing fails

-- no count rose by one fault
pub record IsFaultless (old new : Outside) : Type 0 where
  pub reads : new.read_faults ≢ counted old.read_faults 1
  pub writes : new.write_faults ≢ counted old.write_faults 1

-- the exit status
abbrev pub code_of : Status → ℕ
code_of Done = 0
code_of Usage = 1
code_of (BadLine n) = 2
code_of OutOfMemory = 3
code_of ReadFault = 4
code_of WriteFault = 5
code_of InputTooLong = 6
