-- Which status there is where nothing fails, and where something failed.
use Rattle.std.proofs.Common.{◌≡◌, ◌≢◌, ℕ, ◌+◌, ◌<◌, ◌≤◌, List, [], length, get_or, Option, Some, None, Ok, Err, refl, sym, ap, ◌∙◌, subst, arith, inl, inr, length-append}
use Rattle.std.specs.Prelude.{Result, ◌⊎◌}
use Rattle.line_parts.proofs.ReadingLemmas.{number_same}
use Rattle.arena_calls.specs.Ends.{Outside, FaultsBy, ReadsWhole, Word, EndsAs, GenEnds, EndsBy, AsksGen, IsFaultless, status_of}
use Rattle.arena_calls.specs.ReadAll.{limit, TakesFront, TakesWhole}
use Rattle.arena_calls.specs.declared.status.Status.{Status}
use Rattle.arena_calls.specs.declared.status.Status.TheVariants.{Done, Usage, BadLine, OutOfMemory, ReadFault, WriteFault, InputTooLong}

pub same_bytes : (old new : Outside) (read bytes : List ℕ) → ReadsWhole old new read → old.left ≡ Some bytes → read ≡ bytes
same_bytes old new read bytes whole is = at old.left whole.told is
  where
    at : (left : Option (List ℕ)) → TakesWhole left new.left read → left ≡ Some bytes → read ≡ bytes
    at None h e = cc
    at (Some all) h e = let same = h.0 in cc

pub too_many : (old left : Option (List ℕ)) (bytes : List ℕ) → TakesFront old left (λ n. n ≡ limit + 1) → old ≡ Some bytes
    → limit < length bytes
too_many None left bytes h e = cc
too_many (Some all) None bytes h e = absurd h
too_many (Some all) (Some left) bytes h e =
    let same : all ≡ bytes = cc in
    let size : length bytes ≡ length h.0 + length left = ap length (sym same ∙ h.1) ∙ length-append h.0 left in
    let long = h.2 in
    omega arith

-- a text has one reading
abbrev pub OneReading : {Read : Type 0} → (List ℕ → Result Read ℕ → Type 0) → Type 0
OneReading reads = (bytes : List ℕ) (r s : Result _ ℕ) → reads bytes r → reads bytes s → r ≡ s

module _ {Read : Type 0} (word : Word Read) (old new : Outside) where
  -- these bytes were read, and those of the input are these
  same_status : OneReading word.reads → (read bytes : List ℕ) (r s : Result Read ℕ) → ReadsWhole old new read → old.left ≡ Some bytes
      → word.reads read r → word.reads bytes s → status_of r ≡ status_of s
  same_status one read bytes r s whole is a b =
      ap status_of (one bytes r s (subst (λ (text : List ℕ). word.reads text r) (same_bytes old new read bytes whole is) a) b)

  pub within : OneReading word.reads → (status : Status) (bytes : List ℕ) (read : Result Read ℕ) → EndsAs word status old new
      → IsFaultless old new → old.left ≡ Some bytes → length bytes ≤ limit → word.reads bytes read
      → (status ≡ status_of read) ⊎ (status ≡ OutOfMemory)
  within one Done bytes read ends whole is small lines =
      let run = ends.1.1 in inl (same_status one run.bytes bytes (Ok ends.1.0) read run.whole is run.lines lines)
  within one (BadLine n) bytes read ends whole is small lines =
      let line = ends.1.1 in inl (same_status one line.0 bytes (Err n) read line.1 is line.2 lines)
  within one OutOfMemory bytes read ends whole is small lines = inr refl
  within one InputTooLong bytes read ends whole is small lines =
      absurd (omega (arith, too_many old.left new.left bytes ends.1.1 is))
  within one Usage bytes read ends whole is small lines = absurd ends.1
  within one ReadFault bytes read ends whole is small lines = absurd (whole.reads ends.0.reads)
  within one WriteFault bytes read ends whole is small lines = absurd (whole.writes ends.0.writes)

  -- what was read whole wasn't too long
  not_over : {A : Type 0} (read bytes : List ℕ) → ReadsWhole old new read → old.left ≡ Some bytes → limit < length bytes → A
  not_over read bytes whole is long = absurd (omega (arith, whole.small, ap length (same_bytes old new read bytes whole is)))

  pub over : (status : Status) (bytes : List ℕ) → EndsAs word status old new → IsFaultless old new → old.left ≡ Some bytes
      → limit < length bytes → (status ≡ InputTooLong) ⊎ (status ≡ OutOfMemory)
  over Done bytes ends whole is long = let run = ends.1.1 in not_over run.bytes bytes run.whole is long
  over (BadLine n) bytes ends whole is long = let line = ends.1.1 in not_over line.0 bytes line.1 is long
  over OutOfMemory bytes ends whole is long = inr refl
  over InputTooLong bytes ends whole is long = inl refl
  over Usage bytes ends whole is long = absurd ends.1
  over ReadFault bytes ends whole is long = absurd (whole.reads ends.0.reads)
  over WriteFault bytes ends whole is long = absurd (whole.writes ends.0.writes)

module _ (old new : Outside) where
  pub told_reads : (status : Status) → FaultsBy status old new → new.read_faults ≢ old.read_faults → status ≡ ReadFault
  told_reads ReadFault faults rose = refl
  told_reads status faults rose = absurd (rose faults.reads)

  pub told_writes : (status : Status) → FaultsBy status old new → new.write_faults ≢ old.write_faults → status ≡ WriteFault
  told_writes WriteFault faults rose = refl
  told_writes status faults rose = absurd (rose faults.writes)

  -- ---- A run of calls from a number

  pub gen_status : (start count : ℕ) (status : Status) → GenEnds start count status old new → IsFaultless old new
      → (status ≡ Done) ⊎ (status ≡ OutOfMemory)
  gen_status start count Done ends whole = inl refl
  gen_status start count OutOfMemory ends whole = inr refl
  gen_status start count WriteFault ends whole = absurd (whole.writes ends.0.writes)
  gen_status start count status ends whole = absurd ends.2

  pub gen_reads : (start count : ℕ) (status : Status) → GenEnds start count status old new → new.read_faults ≡ old.read_faults
  gen_reads start count ReadFault ends = absurd ends.2
  gen_reads start count status ends = ends.0.reads

-- words ask for at most one start and count, and then not for a run of lines
pub generated_ends : (words : List (List ℕ)) (start count : ℕ) (status : Status) (old new : Outside) → AsksGen words start count
    → GenEnds start count status old new
    → EndsBy words status old new
generated_ends words start count status old new asks ends = record {
  calls = λ other. absurd (omega (arith, ap length (sym other ∙ asks.all)));
  gen = same;
  other = λ no_calls no_gen. absurd (no_gen start count asks);
}
  where
    same : (from many : ℕ) → AsksGen words from many → GenEnds from many status old new
    same from many also =
        let all = sym asks.all ∙ also.all in
        subst (λ n. GenEnds from n status old new) (number_same count many (ap (λ ws. get_or ws 2 []) all))
        (subst (λ n. GenEnds n count status old new) (number_same start from (ap (λ ws. get_or ws 1 []) all)) ends)
