-- A number has no sign, so that what `parse` reads is digits.
use Rattle.std.proofs.lemmas.Bool.Decides.{nat_tests}
use Rattle.std.proofs.Common.{arith, ◌≡◌, ◌≢◌, ℕ, List, get_or, ◌∙◌, Result}
use Rattle.std.specs.Result.{result_ok}
use Rattle.std.specs.Str.Parse.{ParsesUnsigned}
use Rattle.std.proofs.lemmas.Bool.{cases_Bool}
use Rattle.std.proofs.lemmas.Str.Parse.{numerals_by_value, tells_all_ascii_digits, parse_plain}
use Rattle.example_language.specs.Meaning.{number_in}
use Rattle.example_language.proofs.parsing.number_in.Goals as goal
use Rattle.example_language.proofs.parsing.number_in.Goals.{in_default-via-then-as_bytes-lt1, in_default-via-else-as_bytes-lt1+in_default-1}

number_read : {E : Type 0} (word : List ℕ) (r : Result ℕ E) → ParsesUnsigned 32 10 word r → get_or word 0 0 ≢ 43
    → result_ok r ≡ number_in word
number_read word r parses plain =
    let is = parse_plain (numerals_by_value _ tells_all_ascii_digits) 32 word r parses plain in
    grind (arith, nat_tests, cases_Bool)

pub returns-in_default : goal.returns-in_default
returns-in_default c =
    let plain : get_or c.args.word.now 0 0 ≢ 43 = elim c.in_default.branch [
      | in_default-via-then-as_bytes-lt1 w ↦ grind (arith, nat_tests)
      | in_default-via-else-as_bytes-lt1+in_default-1 w ↦ grind (arith, nat_tests)
    ] in
    c.ok.ensures.value ∙ number_read c.args.word.now c.parse.result c.parse.ensures.value.0 plain
