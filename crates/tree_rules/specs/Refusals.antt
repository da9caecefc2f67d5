-- A text is a program within limits, or it is refused at its first token that is refused.
use Rattle.std.specs.Prelude.{◌≡◌, ℕ, ◌^◌, ◌<◌, ◌≤◌, ◌⊎◌, List, [], ◌∷◌, ◌++◌, length, Option, Some, None, Result, Ok, Err}
use Rattle.std.specs.List.{AllByRecursion}
use Rattle.tree_rules.specs.Tokens.{Token, Number, Placed, tokens, without_places}
use Rattle.tree_rules.specs.Trees.{Stmts}
use Rattle.tree_rules.specs.Grammar.{IsProgram, Begins, BeginsWithin}
use Rattle.tree_rules.specs.declared.refused.Refused.{Refused}
use Rattle.tree_rules.specs.declared.refused.Refused.TheVariants.{Syntax, TooDeep, NumberTooBig}

-- the most that may be open at once
abbrev pub most_nest : ℕ
most_nest = 64

-- a number that fits 64 bits, or no number
abbrev pub Fits : Token → Type 0
Fits (Number n) = n < 2 ^ 64
Fits t = Unit {0}

-- No token is refused: they begin a program within limits.
pub record ArePassed (ts : List Token) : Type 0 where
  pub begin : BeginsWithin most_nest ts
  pub fit : AllByRecursion Fits ts

-- Why the token at a place, after accepted tokens, is refused: with it they begin no program, or none within the limit
-- of nesting, or its number is too big.
abbrev pub IsCause : List Token → Token → ℕ → Refused → Type 0
IsCause before t at (Syntax place) = (place ≡ at) × (Begins (before ++ t ∷ []) → ⊥)
IsCause before t at (TooDeep place) = (place ≡ at) × Begins (before ++ t ∷ []) × (BeginsWithin most_nest (before ++ t ∷ []) → ⊥)
IsCause before t at (NumberTooBig place) = (place ≡ at) × BeginsWithin most_nest (before ++ t ∷ []) × (Fits t → ⊥)

-- the first token that is refused
pub record IsFirstRefused (ts : List Placed) (refused : Refused) : Type 0 where
  pub before : List Placed
  pub token : Placed
  pub after : List Placed
  pub all : ts ≡ before ++ token ∷ after
  pub passed : ArePassed (without_places before)
  pub cause : IsCause (without_places before) token.token token.at refused

-- No token is refused, but they are no program: the text ends too early.
pub record EndsEarly (bytes : List ℕ) (refused : Refused) : Type 0 where
  pub passed : ArePassed (without_places (tokens bytes))
  pub none : (trees : Stmts) (n : ℕ) → IsProgram (without_places (tokens bytes)) trees n → ⊥
  pub place : refused ≡ Syntax (length bytes)

-- the text is a program of this tree, within limits
pub record IsGood (bytes : List ℕ) (trees : Stmts) : Type 0 where
  pub most : ℕ
  pub program : IsProgram (without_places (tokens bytes)) trees most
  pub within : most ≤ most_nest
  pub fit : AllByRecursion Fits (without_places (tokens bytes))

-- the reading of a text: trees, or why it is refused and where
abbrev pub TreeOf : List ℕ → Result Stmts Refused → Type 0
TreeOf bytes (Ok trees) = IsGood bytes trees
TreeOf bytes (Err refused) = IsFirstRefused (tokens bytes) refused ⊎ EndsEarly bytes refused

-- why a text is refused; `None` if it is a program
abbrev pub IsReading : List ℕ → Option Refused → Type 0
IsReading bytes None = (trees : Stmts) × TreeOf bytes (Ok trees)
IsReading bytes (Some refused) = TreeOf bytes (Err refused)
