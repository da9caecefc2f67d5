-- The pieces of work that results are of.
use Rattle.std.specs.Prelude.{ℕ, ◌<◌, List, All, length, slice_index_or}

-- The result is that of the piece with its number. `served` relates a piece to its result.
abbrev pub IsOf : {P S : Type 0} → (P → S → Type 0) → List P → (ℕ × S) → Type 0
IsOf served pieces numbered = (numbered.0 < length pieces) × ((p : _) → served (slice_index_or pieces numbered.0 p) numbered.1)

-- what one worker did
pub record IsShift {P S : Type 0} (served : P → S → Type 0) (pieces : List P) (shift : List (ℕ × S)) : Type 0 where
  pub each : All (IsOf served pieces) shift
