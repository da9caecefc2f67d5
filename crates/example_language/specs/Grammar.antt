-- The grammar of texts: tree := number | name | tree tree "+" | tree tree "*".
use Rattle.std.specs.Prelude.{◌≡◌, ℕ, ◌+◌, ◌<◌, ◌≤◌, ◌⊎◌, max, List, [], ◌∷◌, ◌++◌, length, Some, None}
use Rattle.example_language.specs.Meaning.{Expr, Num, Var, Join, token_of, words_of, spaced}
use Rattle.example_language.specs.declared.nodes.Sign.{Sign}
use Rattle.example_language.specs.declared.parsing.ParseErr.{ParseErr}
use Rattle.example_language.specs.declared.parsing.ParseErr.TheVariants.{Token as BadToken, Operands, TooDeep, Refused}
use Rattle.example_language.specs.declared.parsing.Token.TheVariants.{Number, Name, Join as JoinSign}

-- The words spell the tree, with the operands first.
abbrev pub Spells : Expr → List (List ℕ) → Type 0
Spells (Num n) words = (word : List ℕ) × (words ≡ word ∷ []) × (token_of word ≡ Some (Number n))
Spells (Var name) words = (words ≡ name ∷ []) × (token_of name ≡ Some Name)
Spells (Join sign l r) words = (left : List (List ℕ)) × (right : List (List ℕ)) × (word : List ℕ)
    × (words ≡ left ++ right ++ word ∷ []) × Spells l left × Spells r right × (token_of word ≡ Some (JoinSign sign))

-- How many trees wait at once for their sign, at most, while the words of this one are read: the left operand waits for
-- the right one.
abbrev pub waits : Expr → ℕ
waits (Num n) = 1
waits (Var name) = 1
waits (Join sign l r) = max (waits l) (1 + waits r)

-- ---- Texts without a tree

-- The words spell these trees, one after another, of which the last comes first. At most 64 wait at once.
abbrev pub SpellAll : List Expr → List (List ℕ) → Type 0
SpellAll [] words = words ≡ []
SpellAll (tree ∷ trees) words = (before : List (List ℕ)) × (own : List (List ℕ)) × (words ≡ before ++ own)
    × SpellAll trees before × Spells tree own × (waits tree + length trees ≤ 64)

abbrev pub IsSign : List ℕ → Type 0
IsSign word = (sign : Sign) × (token_of word ≡ Some (JoinSign sign))

abbrev pub IsOperand : List ℕ → Type 0
IsOperand word = (token_of word ≡ Some Name) ⊎ ((n : ℕ) × (token_of word ≡ Some (Number n)))

-- why the word at this byte is wrong after these trees
abbrev pub IsWrong : ParseErr → ℕ → List Expr → List ℕ → Type 0
IsWrong (BadToken place) at trees word = (place ≡ at) × (token_of word ≡ None)
IsWrong (Operands place) at trees word = (place ≡ at) × IsSign word × (length trees < 2)
IsWrong (TooDeep place) at trees word = (place ≡ at) × IsOperand word × (length trees ≡ 64)
IsWrong (Refused error) at trees word = ⊥

-- The words before a word spell trees, and it is wrong after these.
pub record FailsAtWord (text : List ℕ) (e : ParseErr) : Type 0 where
  pub before : List (List ℕ)
  pub word : List ℕ
  pub after : List (List ℕ)
  pub words_are : words_of text ≡ before ++ word ∷ after
  pub trees : List Expr
  pub spelled : SpellAll trees before
  pub wrong : IsWrong e (spaced before) trees word

-- The words spell several trees.
pub record FailsAtEnd (text : List ℕ) (e : ParseErr) : Type 0 where
  pub place : e ≡ Operands (length text)
  pub trees : List Expr
  pub spelled : SpellAll trees (words_of text)
  pub several : 1 < length trees

-- the first error of a text
abbrev pub IsFirstError : List ℕ → ParseErr → Type 0
IsFirstError text e = FailsAtWord text e ⊎ FailsAtEnd text e
