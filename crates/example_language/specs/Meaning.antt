-- What a text means: its words, the token that a word is, and the tree of an expression with the operands first.
use Rattle.std.specs.Prelude.{ℕ, ◌+◌, ◌-◌, ◌^◌, ◌==◌, ◌&&◌, nat_lt, Bool, if◌then◌else◌, List, [], ◌∷◌, length, bytes_eq, codes}
use Rattle.std.specs.Prelude.{Option, Some, None, Result, Ok, Err, option_map}
use Rattle.std.specs.List.{list_all, slice_split}
use Rattle.std.specs.Char.{is_ascii_alphabetic}
use Rattle.std.specs.Str.{all_ascii_digits}
use Rattle.std.specs.Str.Parse.{digits_value}
use Rattle.example_language.specs.declared.nodes.Sign.{Sign}
use Rattle.example_language.specs.declared.nodes.Sign.TheVariants.{Plus, Times}
use Rattle.example_language.specs.declared.parsing.ParseErr.{ParseErr}
use Rattle.example_language.specs.declared.parsing.ParseErr.TheVariants.{Token as BadToken, Operands, TooDeep}
use Rattle.example_language.specs.declared.parsing.Token.{Token}
use Rattle.example_language.specs.declared.parsing.Token.TheVariants.{Number, Name, Join as JoinSign}

-- ---- Words

-- letters, and at least one
abbrev pub is_name : List ℕ → Bool
is_name word = nat_lt 0 (length word) && list_all is_ascii_alphabetic word

-- the number that digits spell, if it is below 2^32
abbrev pub number_in : List ℕ → Option ℕ
number_in word =
    if all_ascii_digits word && (nat_lt 0 (length word) && nat_lt (digits_value 10 word) (2 ^ 32))
    then Some (digits_value 10 word) else None

-- what a word is, if it is a token
abbrev pub token_of : List ℕ → Option Token
token_of word =
    if bytes_eq word (codes "+") then Some (JoinSign Plus) else (
    if bytes_eq word (codes "*") then Some (JoinSign Times) else (
    if is_name word then Some Name else option_map (λ (n : ℕ). Number n) (number_in word)))

-- ---- Trees

-- numbers, names, and two trees joined by a sign
pub data Expr : Type 0 where
  Num : (n : ℕ) → Expr
  Var : (name : List ℕ) → Expr
  Join : (sign : Sign) (left right : Expr) → Expr

-- At most 64 trees may wait for their sign.
abbrev pub fitting : ℕ → List Expr → Result (List Expr) ParseErr
fitting at trees = if nat_lt 64 (length trees) then Err (TooDeep at) else Ok trees

-- What a word at this byte makes of the trees before it, the last one first, by what it is: a number and a name are
-- trees, and a sign joins the last two.
abbrev pub applied : Option Token → List ℕ → ℕ → List Expr → Result (List Expr) ParseErr
applied None word at trees = Err (BadToken at)
applied (Some (Number n)) word at trees = fitting at (Num n ∷ trees)
applied (Some Name) word at trees = fitting at (Var word ∷ trees)
applied (Some (JoinSign sign)) word at (right ∷ left ∷ trees) = fitting at (Join sign left right ∷ trees)
applied (Some (JoinSign sign)) word at trees = Err (Operands at)

-- the first error, or what this function makes of the result
abbrev pub and_then : {X Y E : Type 0} → (X → Result Y E) → Result X E → Result Y E
and_then f (Ok x) = f x
and_then f (Err e) = Err e

-- the tree that is left at the end of a text, if it is one
abbrev pub only_tree : ℕ → List Expr → Result Expr ParseErr
only_tree end (tree ∷ []) = Ok tree
only_tree end trees = Err (Operands end)

-- What words give after these trees. The next one begins at `at`; at the end that is one byte past the text.
abbrev pub read : ℕ → List Expr → List (List ℕ) → Result Expr ParseErr
read at trees [] = only_tree (at - 1) trees
read at trees (word ∷ words) =
    and_then (λ (more : List Expr). read (at + (length word + 1)) more words) (applied (token_of word) word at trees)

-- the words of a text, which have a space between
abbrev pub words_of : List ℕ → List (List ℕ)
words_of text = slice_split (λ b. b == 32) text

-- how many bytes words have, with a space behind each
abbrev pub spaced : List (List ℕ) → ℕ
spaced [] = 0
spaced (word ∷ words) = length word + 1 + spaced words

-- the tree of a text, or its first error
abbrev pub reading : List ℕ → Result Expr ParseErr
reading text = read 0 [] (words_of text)
