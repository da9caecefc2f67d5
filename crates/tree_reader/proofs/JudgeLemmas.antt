-- The machine judges what is seen as it judges the tokens themselves.
use Rattle.std.proofs.Common.{◌≡◌, ℕ, ◌^◌, ◌≤◌, true, cond, Option, Some, None, Ok, Err, List, [], length, refl, ap, ◌∙◌, arith}
use Rattle.std.specs.Prelude.{Result, nat_lt, nat_le, slice_range}
use Rattle.std.proofs.lemmas.Bool.Decides.{nat_tests}
use Rattle.tree_rules.specs.Tokens as tokens
use Rattle.tree_rules.specs.Tokens.{Token, Placed, tokens_from}
use Rattle.tree_rules.specs.Refusals.{most_nest}
use Rattle.tree_rules.specs.Reading.{State, state, step, is_too_big, or_refused, judged, ended, refusal_from}
use Rattle.tree_rules.specs.declared.machine.Open.{Open}
use Rattle.tree_rules.specs.declared.machine.Mode.{Mode}
use Rattle.tree_rules.specs.declared.machine.Mode.TheVariants.{AtLine}
use Rattle.tree_rules.specs.declared.refused.Refused.{Refused}
use Rattle.tree_rules.specs.declared.refused.Refused.TheVariants.{TooDeep, NumberTooBig}
use Rattle.tree_reader.specs.Seen.{IsSeen, IsNext, tokens_at}
use Rattle.tree_reader.specs.Steps.{like}
use Rattle.tree_reader.specs.declared.token.Lexeme.{Lexeme}
use Rattle.tree_reader.specs.declared.token.Seen.{Seen}
use Rattle.tree_reader.specs.declared.token.Seen.TheVariants.{Word, TooBig}

-- all words are treated alike, and so are all numbers that are not too big
step_word : (mode : Mode) (opens : List Open) (a b : List ℕ) → step (state mode opens) (tokens.Word a) ≡ step (state mode opens)
    (tokens.Word b)
step_word AtLine opens a b = refl
step_word _ opens a b = refl

step_number : (mode : Mode) (opens : List Open) (a b : ℕ) → step (state mode opens) (tokens.Number a) ≡ step (state mode opens)
    (tokens.Number b)
step_number AtLine opens a b = refl
step_number _ opens a b = refl

-- equal where the step and the size are equal
judged_as : (s : State) (at : ℕ) (t u : Token) → step s t ≡ step s u → is_too_big t ≡ is_too_big u
    → judged s (record { at = at; token = t }) ≡ judged s (record { at = at; token = u })
judged_as s at t u same big = ap (or_refused (record { at = at; token = t })) same ∙ by (step s u)
  where
    by : (o : Option State) → or_refused (record { at = at; token = t }) o ≡ or_refused (record { at = at; token = u }) o
    by None = refl
    by (Some next) = ap (λ b. cond (nat_lt most_nest (length next.opens)) (Err (TooDeep at)) (cond b (Err (NumberTooBig at)) (Ok next))) big

too_big : (n : ℕ) → 2 ^ 64 ≤ n → is_too_big (tokens.Number n) ≡ is_too_big (tokens.Number (2 ^ 64))
too_big n h = let test : nat_le (2 ^ 64) n ≡ true = grind (arith, nat_tests) in test

pub judged_like : (s : State) (at : ℕ) (seen : Seen) (bytes : List ℕ) (t : Token) → IsSeen seen bytes t
    → judged s (record { at = at; token = t }) ≡ judged s (record { at = at; token = like seen })
judged_like s at Word bytes t h = ap (λ u. judged s (record { at = at; token = u })) h
    ∙ judged_as s at (tokens.Word bytes) (tokens.Word []) (step_word s.mode s.opens bytes []) refl
judged_like s at TooBig bytes t h = ap (λ u. judged s (record { at = at; token = u })) h.1
    ∙ judged_as s at (tokens.Number h.0) (tokens.Number (2 ^ 64)) (step_number s.mode s.opens h.0 (2 ^ 64)) (too_big h.0 h.2)
judged_like s at seen bytes t h = ap (λ u. judged s (record { at = at; token = u })) h

abbrev after : ℕ → Result State Refused → List Placed → Option Refused
after end r ts = elim r [ Err refused ↦ Some refused | Ok next ↦ refusal_from end next ts ]

-- one token further
pub judged_next : (bytes : List ℕ) (at : ℕ) (l : Lexeme) (s : State) (r : Result State Refused) → IsNext bytes at l
    → judged s (record { at = l.at; token = like l.seen }) ≡ r
    → refusal_from (length bytes) s (tokens_at bytes at) ≡ after (length bytes) r (tokens_at bytes l.end)
unfolding refusal_from
judged_next bytes at l s r n is =
    ap (refusal_from (length bytes) s) n.tokens_are
    ∙ ap (λ j. after (length bytes) j (tokens_at bytes l.end)) (judged_like s l.at l.seen (slice_range bytes l.at l.end) n.token n.seen
    ∙ is)

pub ended_next : (bytes : List ℕ) (at : ℕ) (s : State) → tokens_at bytes at ≡ [] → refusal_from (length bytes) s (tokens_at bytes at) ≡
    ended (length bytes) s
unfolding refusal_from
ended_next bytes at s h = ap (refusal_from (length bytes) s) h
