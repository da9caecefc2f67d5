-- Where an input is cut into sources.
use Rattle.std.specs.Prelude.{◌≡◌, ◌≢◌, ℕ, ◌==◌, ◌||◌, Bool, nat_eq, if◌then◌else◌, List, [], ◌∷◌, ◌++◌, ◌≤◌, length, take, drop, map, codes}
use Rattle.std.specs.List.{slice_split, onto_first, flat_map}
use Rattle.std.specs.Cmp.Lexicographic.{pointwise}

-- the lines of bytes, each with the line feed that ends it
abbrev pub fed_lines : List ℕ → List (List ℕ)
fed_lines [] = []
fed_lines (b ∷ bytes) = if b == 10 then (b ∷ []) ∷ fed_lines bytes else onto_first b (fed_lines bytes)

-- the line is exactly `%%`
abbrev pub is_mark : List ℕ → Bool
is_mark line = pointwise nat_eq line (codes "%%") || pointwise nat_eq line (codes "%%" ++ 10 ∷ [])

-- the bytes of lines, one after another
abbrev pub joined : List (List ℕ) → List ℕ
joined lines = flat_map (λ line. line) lines

-- Marks are between sources, and belong to none. So there is one source more than there are marks.
abbrev pub sources : List ℕ → List (List ℕ)
sources bytes = map joined (slice_split is_mark (fed_lines bytes))

-- the first line of bytes, which is empty only where there are none
pub record IsFirstLine (bytes line : List ℕ) : Type 0 where
  pub behind : List ℕ
  pub all : bytes ≡ line ++ behind
  pub none : line ≡ [] → bytes ≡ []
  pub first : line ≢ [] → fed_lines bytes ≡ line ∷ fed_lines behind

-- bytes at the front of the first source
abbrev pub onto : List ℕ → List (List ℕ) → List (List ℕ)
onto bytes [] = []
onto bytes (source ∷ rest) = (bytes ++ source) ∷ rest

-- no mark is among the first n bytes, which end with a line or are all
pub record IsPassed (bytes : List ℕ) (n : ℕ) : Type 0 where
  pub within : n ≤ length bytes
  pub are : sources bytes ≡ onto (take n bytes) (sources (drop n bytes))
