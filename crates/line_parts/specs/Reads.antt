-- What is read at the front of bytes.
use Rattle.std.specs.Prelude.{◌≡◌, ◌≢◌, ℕ, ◌≤◌, ◌==◌, ◌||◌, Bool, true, IsTrue, Option, Some, None, IfSome, List, [], ◌∷◌, ◌++◌}
use Rattle.std.specs.Option.{option_map}
use Rattle.std.specs.Borrow.{Bor}
use Rattle.line_parts.specs.Numbers.{IsByte, number, hex_pair}

-- a word ends before these bytes
abbrev pub is_word_end : List ℕ → Bool
is_word_end [] = true
is_word_end (c ∷ cs) = c == 32 || c == 10

-- What was read is at the front, followed by the rest. What is at the front, followed by the end of a word, was read.
pub record ReadsFront {A : Type 0} (Is : A → Type 0) (text : A → List ℕ) (bytes : List ℕ) (read : Option (A × List ℕ)) : Type 0 where
  pub found : IfSome read (λ x. Is x.0 × (bytes ≡ text x.0 ++ x.1))
  pub only : (a : A) (rest : List ℕ) → Is a → IsTrue (is_word_end rest) → bytes ≡ text a ++ rest → read ≡ Some (a, rest)

-- `ReadsFront` of what a function returns, with the rest as a slice
abbrev pub Reads : {A : Type 0} → (A → Type 0) → (A → List ℕ) → List ℕ → Option (A × Bor (List ℕ)) → Type 0
Reads Is text bytes read = ReadsFront Is text bytes (option_map (λ x. (x.0, x.1.now)) read)

-- the front isn't the two digits of a byte
abbrev pub HasNoPair : List ℕ → Type 0
HasNoPair bytes = (b : ℕ) (rest : List ℕ) → IsByte b → bytes ≢ hex_pair b ++ rest

-- The bytes are this number, which is at most `max`; or they are no such number.
abbrev pub IsNumber : ℕ → List ℕ → Option ℕ → Type 0
IsNumber max bytes (Some n) = (n ≤ max) × (bytes ≡ number n)
IsNumber max bytes None = (n : ℕ) → n ≤ max → bytes ≢ number n
