-- Names are texts.
use Rattle.std.proofs.Common.{◌≡◌, ℕ, ◌<◌, List, [], ◌∷◌, true, arith}
use Rattle.std.specs.List.{list_all}
use Rattle.std.specs.Str.{IsUtf8, IsAscii}
use Rattle.std.proofs.lemmas.Bool.{and_parts, or_left}
use Rattle.std.proofs.lemmas.Bool.Decides.{nat_tests}
use Rattle.std.proofs.lemmas.Str.{IsUtf8-from_ascii}
use Rattle.std.proofs.lemmas.Str.Ascii.{IsAscii-nil, IsAscii-cons}
use Rattle.tree_rules.specs.Tokens.{is_name_start, is_digit, is_name_byte}
use Rattle.tree_rules.specs.Trees.{IsName}

byte_small : (b : ℕ) → is_name_byte b ≡ true → b < 128
byte_small b h = grind (arith, nat_tests)

name_ascii : (bs : List ℕ) → list_all is_name_byte bs ≡ true → IsAscii bs
name_ascii [] h = IsAscii-nil
name_ascii (b ∷ bs) h =
    let both = and_parts (is_name_byte b) (list_all is_name_byte bs) h in
    IsAscii-cons b bs (byte_small b both.0) (name_ascii bs both.1)

pub name_text : (name : List ℕ) → IsName name → IsUtf8 name
name_text [] is = absurd is
name_text (b ∷ bs) is = IsUtf8-from_ascii (b ∷ bs)
    (IsAscii-cons b bs (byte_small b (or_left (is_name_start b) (is_digit b) is.0)) (name_ascii bs is.1))
