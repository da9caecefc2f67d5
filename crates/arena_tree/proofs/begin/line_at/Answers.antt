use Rattle.std.proofs.lemmas.Bool.Decides.{nat_tests}
use Rattle.std.proofs.Common.{◌≡◌, ℕ, List, ◌∷◌, Some, false, refl, arith}
use Rattle.tree_rules.specs.Tokens.{Token, LetKey}
use Rattle.tree_rules.specs.Reading.{State, state, step, is_too_big}
use Rattle.tree_rules.specs.declared.machine.Mode.{Mode}
use Rattle.tree_rules.specs.declared.machine.Mode.TheVariants.{AtLine, AtName, AtEquals, AtFactor}
use Rattle.arena_tree.specs.Parts.{Reads, IsTokenAt}
use Rattle.arena_tree.specs.LineParts.{Depth, braces, NoLine}
use Rattle.arena_tree.proofs.TokenLemmas.{token_seen, expr_start, if_none}
use Rattle.arena_tree.proofs.PartLemmas.{reads_token, reads_then, refused_then, braces_many}
use Rattle.arena_tree.proofs.begin.line_at.Goals as goal

abbrev in_mode : Mode → Depth → State
in_mode mode d = state mode (braces d.depth)

-- a token before which and after which the same is open
stays : {bytes : List ℕ} {at end : ℕ} {token : Token} (before behind : Mode) → IsTokenAt bytes at token end → is_too_big token ≡ false
    → ((d : Depth) → step (in_mode before d) token ≡ Some (in_mode behind d))
    → Reads bytes at end (λ more. token ∷ more) (in_mode before) (in_mode behind)
stays before behind t small steps =
    reads_token (in_mode before) (in_mode behind) t small (λ d. omega (arith, braces_many d.depth, d.low)) steps

pub returns-in_err-begin-in-LetKey-clause-none : goal.returns-in_err-begin-in-LetKey-clause-none
returns-in_err-begin-in-LetKey-clause-none c =
    let key = stays AtLine AtName (token_seen LetKey c.in-Some.ensures.some c.in-LetKey.is (λ h. h)) refl (λ d. refl) in
    if_none (NoLine c.args.src.now c.args.at) _ (refused_then key (λ d. c.in_err-begin-in-LetKey.ensures.none (braces d.depth)))

pub returns-in_err-behind-in-LetKey-clause-none : goal.returns-in_err-behind-in-LetKey-clause-none
returns-in_err-behind-in-LetKey-clause-none c =
    let key = stays AtLine AtName (token_seen LetKey c.in-Some.ensures.some c.in-LetKey.is (λ h. h)) refl (λ d. refl) in
    let name = stays AtName AtEquals c.in_ok-begin-in-LetKey.ensures.token refl (λ d. refl) in
    if_none (NoLine c.args.src.now c.args.at) _
    (refused_then (reads_then key name) (λ d. c.in_err-behind-in-LetKey.ensures.none (braces d.depth)))

pub returns-in_ok-behind-in-LetKey-clause-some : goal.returns-in_ok-behind-in-LetKey-clause-some
returns-in_ok-behind-in-LetKey-clause-some c =
    let t = token_seen LetKey c.in-Some.ensures.some c.in-LetKey.is (λ h. h) in
    let name = c.in_ok-begin-in-LetKey.ensures in
    let equals = c.in_ok-behind-in-LetKey.ensures.some in
    let key = stays AtLine AtName t refl (λ d. refl) in
    let is = reads_then key (reads_then (stays AtName AtEquals name.token refl (λ d. refl))
    (stays AtEquals AtFactor equals refl (λ d. refl))) in (
      is,
      is.later,
      is.within,
      name.range,
      name.token.within,
      omega (arith, t.later, name.begin),
      omega (arith, equals.later),
      (_, name.token),
    )

pub returns-in_default-seen : goal.returns-in_default-seen
returns-in_default-seen c = grind (arith, nat_tests, expr_start)
