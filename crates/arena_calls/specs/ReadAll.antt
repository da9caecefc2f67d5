-- What was taken of an input that is to be read to its end.
use Rattle.std.specs.Prelude.{◌≡◌, ℕ, ◌+◌, ◌≤◌, List, [], ◌++◌, length, Option, Some, IfSome, IsSomeAnd, Result, Ok, Err, Vec}
use Rattle.std.specs.Global.{Global}
use Rattle.arena_rules.specs.Causes.{counted}
use Rattle.arena_calls.specs.declared.streams.all.ReadErr.{ReadErr}
use Rattle.arena_calls.specs.declared.streams.all.ReadErr.TheVariants.{Failed, TooLong, OutOfMemory}

-- how many bytes an input may have
abbrev pub limit : ℕ
limit = 16777216

-- a front of such a length was taken
abbrev pub TakesFront : Option (List ℕ) → Option (List ℕ) → (ℕ → Type 0) → Type 0
TakesFront old new P =
    IfSome old (λ all. IsSomeAnd new (λ left. (taken : List ℕ) × (all ≡ taken ++ left) × P (length taken)))

-- all bytes were taken, and they are these
abbrev pub TakesWhole : Option (List ℕ) → Option (List ℕ) → List ℕ → Type 0
TakesWhole old new bytes = IfSome old (λ all. (bytes ≡ all) × (new ≡ Some []))

-- all bytes, or one too many, or those before the fault or the lack of memory
abbrev pub TakesAll : Option (List ℕ) → Option (List ℕ) → Result (Vec ℕ Global) ReadErr → Type 0
TakesAll old new (Ok v) = TakesWhole old new v.items
TakesAll old new (Err TooLong) = TakesFront old new (λ n. n ≡ limit + 1)
TakesAll old new (Err Failed) = TakesFront old new (λ n. n ≤ limit)
TakesAll old new (Err OutOfMemory) = TakesFront old new (λ n. n ≤ limit)

-- the count of faults afterwards: one more where a read failed
abbrev pub faults_after : ℕ → Result (Vec ℕ Global) ReadErr → ℕ
faults_after before (Ok v) = before
faults_after before (Err TooLong) = before
faults_after before (Err Failed) = counted before 1
faults_after before (Err OutOfMemory) = before
