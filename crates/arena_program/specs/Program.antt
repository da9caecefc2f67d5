-- What the program prints and returns: for its words, for their results, and over how much memory.
use Rattle.std.specs.Prelude.{◌≡◌, ◌≢◌, ℕ, List, [], ◌∷◌, ◌++◌, drop, map, Result, Ok, Err, ◌⊎◌, codes, String, string_bytes}
use Rattle.std.specs.Global.{Global}
use Rattle.std.specs.IoError.{error_kind}
use Rattle.std.specs.Vec.Iter.{into_iter_items}
use Rattle.std.specs.declared.io.Error.{Error}
use Rattle.std.specs.declared.io.ErrorKind.{ErrorKind}
use Rattle.std.specs.declared.io.ErrorKind.TheVariants.{OutOfMemory as NoMemory}
use Rattle.std.specs.declared.vec.IntoIter.{IntoIter}
use Rattle.arena_calls.specs.Ends.{Outside, Prints}
use Rattle.arena_chunks.specs.Source.{Source}
use Rattle.script_rules.specs.declared.commands.Command.{Command}
use Rattle.script_rules.specs.declared.outcome.Outcome.{Outcome}
use Rattle.arena_workers.specs.declared.served.Starved.{Starved}
use Rattle.arena_program.specs.MainEnds.{MainEnds}
use Rattle.arena_calls.specs.declared.status.Status.{Status}
use Rattle.arena_calls.specs.declared.status.Status.TheVariants.{Usage, OutOfMemory}

-- how many bytes the chunks of each arena of a pool may have: 64 MiB
abbrev pub maker_budget : ℕ
maker_budget = 67108864

-- a program's words, its name first
abbrev pub Args : Type 0
Args = IntoIter (String Global) Global

-- the words after the program's name
abbrev pub words_of : Args → List (List ℕ)
words_of args = drop 1 (map string_bytes (into_iter_items args))

-- how the program ends where its words can't be read: memory ran out, or one is no text
abbrev pub status_without : ErrorKind → Status
status_without NoMemory = OutOfMemory
status_without kind = Usage

-- This text was printed, and nothing else touched.
abbrev pub PrintsAlone : List ℕ → Status → Outside → Outside → Type 0
PrintsAlone text status old new =
    (new ≡ record old { written = new.written; write_faults = new.write_faults })
    × Prints text status old.written old.write_faults new.written new.write_faults

-- One word may ask for one of the two texts. All else asks for a run, or is none.
pub record Serves {C : Type 0} (help_text version_text : List ℕ) (source : C → Source) (worked : List Command → Outcome → Type 0)
    (words : List (List ℕ)) (status : Status) (old new : Outside) (before after : List (ℕ × Starved C)) : Type 0 where
  pub help : words ≡ codes "--help" ∷ [] → PrintsAlone help_text status old new × (after ≡ before)
  pub version : words ≡ codes "--version" ∷ [] → PrintsAlone version_text status old new × (after ≡ before)
  pub other : words ≢ codes "--help" ∷ [] → words ≢ codes "--version" ∷ []
      → MainEnds source worked words status old new before after

-- The words are served, unless they can't be read, or memory runs out for them.
abbrev pub Answers : {C : Type 0} → List ℕ → List ℕ → (C → Source) → (List Command → Outcome → Type 0) → Result Args Error → Status
    → Outside → Outside → List (ℕ × Starved C) → List (ℕ × Starved C) → Type 0
Answers help version source worked (Ok args) status old new before after =
    Serves help version source worked (words_of args) status old new before after
    ⊎ ((status ≡ OutOfMemory) × (new ≡ old) × (after ≡ before))
Answers help version source worked (Err error) status old new before after =
    (status ≡ status_without (error_kind error)) × (new ≡ old) × (after ≡ before)

-- the line on standard error where the words are no command
abbrev pub usage : List ℕ
usage = codes "usage: arena_run calls | gen START COUNT | scripts WORKERS [fixed BYTES ARENAS | keep BYTES] | lint WORKERS" ++ 10 ∷ []
