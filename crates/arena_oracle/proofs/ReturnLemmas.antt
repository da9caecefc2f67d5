-- What a call returns.
use Rattle.std.proofs.Common.{◌≡◌, ℕ, true, ap, ◌∙◌, arith, List, [], length}
use Rattle.std.specs.Prelude.{nat_le}
use Rattle.std.proofs.lemmas.Bool.Decides.{nat_tests}
use Rattle.arena_calls.specs.Ends.{code_of}
use Rattle.arena_calls.specs.declared.status.Status.{Status}
use Rattle.arena_calls.specs.declared.status.Status.TheVariants as status
use Rattle.arena_store.specs.Source.{Source}
use Rattle.arena_oracle.specs.Limits.{limited}
use Rattle.arena_oracle.specs.Answers.{Ending, Yields, YieldsWithin, IsReturned}
use Rattle.arena_oracle.specs.Sources.{source_of}
use Rattle.arena_oracle.specs.declared.report.Report.{Report}
use Rattle.arena_oracle.specs.declared.source.ListedChunks.{ListedChunks}

-- the whole of an export's contract, from what the run, the source and the buffer say
pub returned : (Is : ℕ → List ℕ → Ending) (lines : List ℕ) (budget : ℕ) (refuse : List ℕ) (before : Source) (chunks : ListedChunks) (end : Status)
    (text old new : List ℕ) (report : Report) (code : ℕ) → before ≡ limited budget refuse
    → YieldsWithin Is lines before (source_of chunks) end text → IsReturned end text chunks.refused old new report code
    → (status : Status) × (written : List ℕ) × (after : Source)
    × Yields (Is budget refuse) lines (limited budget refuse) after status written
    × IsReturned status written after.refusals old new report code
returned Is lines budget refuse before chunks end text old new report code first yields is =
    let run = yields budget refuse first in
    (end, text, source_of chunks, rw first at run, is)

-- a run with no text has the code of its status
textless : (end : Status) (refused : ℕ) (old new : List ℕ) (report : Report) (code : ℕ) → IsReturned end [] refused old new report code
    → code ≡ code_of end
textless end refused old new report code is =
    let room : nat_le 0 (length old) ≡ true = grind (arith, nat_tests) in
    rw room at is.is

-- lines that are too long have the code 6
pub long_code : (end : Status) (refused : ℕ) (old new : List ℕ) (report : Report) (code : ℕ) → IsReturned end [] refused old new report code
    → end ≡ status.InputTooLong → code ≡ 6
long_code end refused old new report code is long = textless end refused old new report code is ∙ ap code_of long

-- and without memory the code is 3
pub short_code : (end : Status) (refused : ℕ) (old new : List ℕ) (report : Report) (code : ℕ) → IsReturned end [] refused old new report code
    → end ≡ status.OutOfMemory → code ≡ 3
short_code end refused old new report code is short = textless end refused old new report code is ∙ ap code_of short
