-- Hashes of contents.
use Rattle.std.specs.Prelude.{◌≡◌, ℕ, List}

-- all hashers give the same hash for each content
abbrev pub IsFixed : {S : Type 0} → (S → List ℕ → ℕ) → Type 0
IsFixed {S} hash = (one other : S) (content : List ℕ) → hash one content ≡ hash other content
