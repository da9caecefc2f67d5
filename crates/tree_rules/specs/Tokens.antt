-- The tokens of a text.
use Rattle.std.specs.Prelude.{ℕ, zero, suc, ◌+◌, ◌-◌, ◌*◌, ◌==◌, nat_le, ◌&&◌, ◌||◌, Bool, true, false, if◌then◌else◌, List, [], ◌∷◌, length, map, codes, bytes_eq}

pub data Token : Type 0 where
  LetKey : Token
  Word : (bytes : List ℕ) → Token
  Number : (n : ℕ) → Token
  Plus : Token
  Minus : Token
  Star : Token
  LeftParen : Token
  RightParen : Token
  LeftBrace : Token
  RightBrace : Token
  Equals : Token
  Semicolon : Token
  -- a token that no program has
  Other : Token

-- ---- Bytes

abbrev pub is_space : ℕ → Bool
is_space b = b == 32 || b == 10

abbrev pub is_digit : ℕ → Bool
is_digit b = nat_le 48 b && nat_le b 57

-- a small letter or a low line
abbrev pub is_name_start : ℕ → Bool
is_name_start b = nat_le 97 b && nat_le b 122 || b == 95

abbrev pub is_name_byte : ℕ → Bool
is_name_byte b = is_name_start b || is_digit b

-- ---- One token

-- the longest front whose bytes all pass the test
abbrev pub run : (ℕ → Bool) → List ℕ → List ℕ
run passes [] = []
run passes (b ∷ bytes) = if passes b then b ∷ run passes bytes else []

-- the keyword, or a name
abbrev pub word : List ℕ → Token
word bytes = if bytes_eq bytes (codes "let") then LetKey else Word bytes

-- the number that digits spell, after those of n
abbrev pub value : ℕ → List ℕ → ℕ
value n [] = n
value n (d ∷ digits) = value (n * 10 + (d - 48)) digits

-- several digits, the first of which is 0
abbrev pub has_needless_zero : List ℕ → Bool
has_needless_zero (d ∷ e ∷ digits) = d == 48
has_needless_zero digits = false

abbrev pub number_token : List ℕ → Token
number_token digits = if has_needless_zero digits then Other else Number (value 0 digits)

-- the first of the rows with this byte
abbrev pub look_up : List (ℕ × Token) → ℕ → Token
look_up [] b = Other
look_up (row ∷ rows) b = if b == row.0 then row.1 else look_up rows b

-- + - * ( ) { } = ;
abbrev pub signs : List (ℕ × Token)
signs = (43, Plus) ∷ (45, Minus) ∷ (42, Star) ∷ (40, LeftParen) ∷ (41, RightParen) ∷ (123, LeftBrace) ∷ (125, RightBrace) ∷ (61, Equals)
    ∷ (59, Semicolon) ∷ []

abbrev pub sign : ℕ → Token
sign = look_up signs

-- a token and how many bytes it has
pub record Front : Type 0 where
  pub token : Token
  pub length : ℕ

abbrev pub word_front : List ℕ → Front
word_front bytes = record { token = word bytes; length = length bytes }

abbrev pub number_front : List ℕ → Front
number_front digits = record { token = number_token digits; length = length digits }

abbrev pub sign_front : ℕ → Front
sign_front b = record { token = sign b; length = 1 }

-- the front of a text that doesn't begin with a digit
abbrev pub other_front : ℕ → List ℕ → Front
other_front b bytes = if is_name_start b then word_front (run is_name_byte (b ∷ bytes)) else sign_front b

-- The token that begins with this byte: it is as long as can be.
unfoldable pub front : ℕ → List ℕ → Front
front b bytes = if is_digit b then number_front (run is_digit (b ∷ bytes)) else other_front b bytes

-- ---- All tokens

-- a token and where it begins
pub record Placed : Type 0 where
  pub at : ℕ
  pub token : Token

abbrev pub placed : ℕ → Front → Placed
placed at front = record { at = at; token = front.token }

-- The tokens of bytes that begin at a place, of which the first `skip` belong to the token before. A token begins at
-- each other byte that is no space.
unfoldable pub tokens_from : ℕ → ℕ → List ℕ → List Placed
tokens_from at skip [] = []
tokens_from at (suc skip) (b ∷ bytes) = tokens_from (suc at) skip bytes
tokens_from at zero (b ∷ bytes) =
    elim (is_space b) [
      | true ↦ tokens_from (suc at) zero bytes
      | false ↦ placed at (front b bytes) ∷ tokens_from (suc at) ((front b bytes).length - 1) bytes
    ]

abbrev pub tokens : List ℕ → List Placed
tokens bytes = tokens_from 0 0 bytes

abbrev pub without_places : List Placed → List Token
without_places ts = map (λ (t : Placed). t.token) ts
