-- What comes next in a text, and where it is refused.
use Rattle.std.proofs.lemmas.Bool.{true≢false}
use Rattle.std.proofs.lemmas.Bool.Decides.{nat_tests}
use Rattle.std.proofs.lemmas.Option.{none-some}
use Rattle.std.proofs.Common.{◌≡◌, ◌==◌, ◌+◌, ◌<◌, ◌≤◌, codes, ℕ, zero, Bool, true, false, cond, Option, Some, None, Ok, Err, List, [], ◌∷◌, length, refl, sym, ap, ◌∙◌, subst, arith}
use Rattle.std.specs.Prelude.{Result, IfNone, nat_lt, slice_index, slice_range, bytes_eq}
use Rattle.tree_rules.specs.Tokens.{Token, LetKey, Word, Plus, Star, RightParen, LeftBrace, RightBrace, Equals, Semicolon, Other, Placed, is_digit, is_name_start, word, sign}
use Rattle.tree_rules.specs.Refusals.{most_nest}
use Rattle.tree_rules.specs.Reading.{State, state, step, is_too_big, or_refused, judged, ended, refusal_from}
use Rattle.tree_rules.specs.declared.machine.Open.{Open}
use Rattle.tree_rules.specs.declared.machine.Open.TheVariants.{Paren}
use Rattle.tree_rules.specs.declared.machine.Mode.TheVariants.{AtLine, AtName, AtEquals, AtFactor, BehindFactor}
use Rattle.tree_rules.specs.declared.refused.Refused.{Refused}
use Rattle.tree_rules.specs.declared.refused.Refused.TheVariants.{Syntax, TooDeep, NumberTooBig}
use Rattle.tree_reader.specs.Seen.{IsSeen, IsNumeral, IsBegin, IsNext, tokens_at}
use Rattle.tree_reader.specs.Steps.{like}
use Rattle.tree_reader.specs.declared.token.Lexeme.{Lexeme}
use Rattle.tree_reader.specs.declared.token.Seen.{Seen}
use Rattle.tree_reader.specs.declared.token.Seen.TheVariants as seen
use Rattle.tree_reader.proofs.JudgeLemmas.{judged_next, ended_next}
use Rattle.tree_reader.proofs.ByteLemmas.{first_sign}
use Rattle.arena_tree.specs.Parts.{IsPassed, IsRefusedAt, IsTokenAt, TermsStop, NoFactor, NoClose}
use Rattle.arena_tree.specs.LineParts.{braces, NoEnd}

-- ---- One token

next_token : {bytes : List ℕ} {at : ℕ} {l : Lexeme} (n : IsNext bytes at l) → IsTokenAt bytes at n.token l.end
next_token {l = l} n = record { place = l.at; tokens_are = n.tokens_are; later = omega (arith, n.behind, n.some); within = n.within }

-- a token of a kind, by what is seen
pub token_seen : {bytes : List ℕ} {at : ℕ} {l : Lexeme} {s : Seen} (token : Token) (n : IsNext bytes at l) → l.seen ≡ s
    → (IsSeen s (slice_range bytes l.at l.end) n.token → n.token ≡ token) → IsTokenAt bytes at token l.end
token_seen {bytes} {at} {l} token n is same = grind (arith, nat_tests, next_token)

-- A token that is accepted may come there, and the text isn't refused after it.
pub record Passed (size : ℕ) (s : State) (token : Token) (ts : List Placed) : Type 0 where
  pub next : State
  pub step_is : step s token ≡ Some next
  pub small : is_too_big token ≡ false
  pub rest : refusal_from size next ts ≡ None

abbrev then : ℕ → List Placed → Result State Refused → Option Refused
then size ts r = elim r [ Err refused ↦ Some refused | Ok next ↦ refusal_from size next ts ]

pub passed_from : (size : ℕ) (s : State) (t : Placed) (ts : List Placed) → refusal_from size s (t ∷ ts) ≡ None → Passed size s t.token ts
unfolding refusal_from
passed_from size s t ts h = by (step s t.token) refl h
  where
    sized : (next : State) → step s t.token ≡ Some next → (b c : Bool) → is_too_big t.token ≡ c
        → then size ts (cond {A = Result State Refused} b (Err (TooDeep t.at)) (cond c (Err (NumberTooBig t.at)) (Ok next))) ≡ None
        → Passed size s t.token ts
    sized next is false false small h = record { next = next; step_is = is; small = small; rest = h }
    sized next is b c small h = absurd (none-some _ (sym h))

    by : (o : Option State) → step s t.token ≡ o → then size ts (or_refused t o) ≡ None → Passed size s t.token ts
    by None is h = absurd (none-some _ (sym h))
    by (Some next) is h = sized next is (nat_lt most_nest (length next.opens)) (is_too_big t.token) refl h

passed_token : {bytes : List ℕ} {at end : ℕ} {token : Token} (s : State) → IsTokenAt bytes at token end → IsPassed bytes s at
    → Passed (length bytes) s token (tokens_at bytes end)
passed_token {bytes} {at} {end} {token} s t p =
    passed_from (length bytes) s (record { at = t.place; token = token }) (tokens_at bytes end)
    (subst (λ ts. refusal_from (length bytes) s ts ≡ None) t.tokens_are p)

-- Over a token that the grammar allows, by whether too many are then open and whether it is too big.
limited : ℕ → State → Placed → List Placed → Bool → Bool → Option Refused
limited size next t ts deep big =
    then size ts (cond {A = Result State Refused} deep (Err (TooDeep t.at)) (cond big (Err (NumberTooBig t.at)) (Ok next)))

allowed : (size : ℕ) (s next : State) (t : Placed) (ts : List Placed) → step s t.token ≡ Some next
    → refusal_from size s (t ∷ ts) ≡ limited size next t ts (nat_lt most_nest (length next.opens)) (is_too_big t.token)
unfolding refusal_from limited
allowed size s next t ts is = ap (λ o. then size ts (or_refused t o)) is

accepted : (size : ℕ) (s next : State) (t : Placed) (ts : List Placed) → step s t.token ≡ Some next → length next.opens ≤ most_nest
    → is_too_big t.token ≡ false → refusal_from size s (t ∷ ts) ≡ refusal_from size next ts
unfolding limited
accepted size s next t ts is low small =
    let test : nat_lt most_nest (length next.opens) ≡ false = grind (arith, nat_tests) in
    allowed size s next t ts is ∙ ap (λ b. limited size next t ts b (is_too_big t.token)) test ∙ ap (limited size next t ts false) small

deep_refused : (size : ℕ) (s next : State) (t : Placed) (ts : List Placed) → step s t.token ≡ Some next → most_nest < length next.opens
    → refusal_from size s (t ∷ ts) ≡ Some (TooDeep t.at)
unfolding limited
deep_refused size s next t ts is deep =
    let test : nat_lt most_nest (length next.opens) ≡ true = grind (arith, nat_tests) in
    allowed size s next t ts is ∙ ap (λ b. limited size next t ts b (is_too_big t.token)) test

module _ {bytes : List ℕ} {at end : ℕ} {token : Token} (s next : State) (t : IsTokenAt bytes at token end) (is : step s token ≡ Some next) where
  pub goes_to : length next.opens ≤ most_nest → is_too_big token ≡ false
      → refusal_from (length bytes) s (tokens_at bytes at) ≡ refusal_from (length bytes) next (tokens_at bytes end)
  goes_to low small = grind (arith, nat_tests, accepted)

  pub too_deep : most_nest < length next.opens → IsPassed bytes s at → ⊥
  too_deep deep p = grind (arith, nat_tests, none-some, deep_refused)

-- ---- What is seen

-- what is seen next may come there
passed_next : {bytes : List ℕ} {at : ℕ} {l : Lexeme} → IsNext bytes at l → (s : State) → IsPassed bytes s at
    → Passed (length bytes) s (like l.seen) (tokens_at bytes l.end)
unfolding refusal_from
passed_next {bytes} {at} {l} n s p = grind (arith, nat_tests, judged_next)

-- what holds where nothing is returned
pub if_none : {X : Type 0} (P : Type 0) (r : Option X) → P → IfNone r P
if_none P r holds = grind (arith, nat_tests)

-- where a text may not end, and no token comes, it is refused
pub none_at : {X Y : Type 0} (bytes : List ℕ) (at : ℕ) (before : X → State)
    → ((x : X) → ended (length bytes) (before x) ≡ Some (Syntax (length bytes))) → tokens_at bytes at ≡ [] → (r : Option Y)
    → IfNone r (IsRefusedAt before bytes at)
none_at bytes at before ends none r = grind (arith, nat_tests, if_none, none-some, ended_next)

module _ {bytes : List ℕ} {at : ℕ} {l : Lexeme} (n : IsNext bytes at l) where
  pub only_name : (opens : List Open) → IsPassed bytes (state AtName opens) at → (l.seen ≡ seen.Word → ⊥) → ⊥
  only_name opens p = by l.seen (passed_next n (state AtName opens) p)
    where
      by : (s : Seen) → Passed (length bytes) (state AtName opens) (like s) (tokens_at bytes l.end) → (s ≡ seen.Word → ⊥) → ⊥
      by seen.Word q other = other refl
      by s q other = none-some q.next q.step_is

  pub only_equals : (opens : List Open) → IsPassed bytes (state AtEquals opens) at → (l.seen ≡ seen.Equals → ⊥) → ⊥
  only_equals opens p = by l.seen (passed_next n (state AtEquals opens) p)
    where
      by : (s : Seen) → Passed (length bytes) (state AtEquals opens) (like s) (tokens_at bytes l.end) → (s ≡ seen.Equals → ⊥) → ⊥
      by seen.Equals q other = other refl
      by s q other = none-some q.next q.step_is

  -- in a factor's place digits are a number
  pub only_number : (opens : List Open) → IsPassed bytes (state AtFactor opens) at → IsNumeral l.seen
      → ((n : ℕ) → l.seen ≡ seen.Number n → ⊥) → ⊥
  only_number opens p = by l.seen (passed_next n (state AtFactor opens) p)
    where
      by : (s : Seen) → Passed (length bytes) (state AtFactor opens) (like s) (tokens_at bytes l.end) → IsNumeral s
          → ((n : ℕ) → s ≡ seen.Number n → ⊥) → ⊥
      by (seen.Number k) q is other = other k refl
      by seen.TooBig q is other = true≢false q.small
      by seen.Other q is other = none-some q.next q.step_is
      by s q is other = absurd is

  -- after an expression in parentheses they close
  pub only_close : TermsStop (tokens_at bytes at) → (l.seen ≡ seen.RightParen → ⊥) → NoClose bytes at
  only_close stop other opens p = by l.seen (passed_next n (state BehindFactor (Paren ∷ opens)) p) (subst TermsStop n.tokens_are stop) n.seen other
    where
      by : (s : Seen) → Passed (length bytes) (state BehindFactor (Paren ∷ opens)) (like s) (tokens_at bytes l.end)
          → TermsStop (record { at = l.at; token = n.token } ∷ tokens_at bytes l.end) → IsSeen s (slice_range bytes l.at l.end) n.token
          → (s ≡ seen.RightParen → ⊥) → ⊥
      by seen.RightParen q stop h other = other refl
      by seen.Star q stop h other = stop.0 h
      by seen.Plus q stop h other = stop.1.0 h
      by seen.Minus q stop h other = stop.1.1 h
      by s q stop h other = none-some q.next q.step_is

  -- after a statement's expression a semicolon comes
  pub only_semicolon : TermsStop (tokens_at bytes at) → (l.seen ≡ seen.Semicolon → ⊥) → NoEnd bytes at
  only_semicolon stop other deep p =
      by l.seen deep (passed_next n (state BehindFactor (braces deep)) p) (subst TermsStop n.tokens_are stop) n.seen other
    where
      by : (s : Seen) (depth : ℕ) → Passed (length bytes) (state BehindFactor (braces depth)) (like s) (tokens_at bytes l.end)
          → TermsStop (record { at = l.at; token = n.token } ∷ tokens_at bytes l.end) → IsSeen s (slice_range bytes l.at l.end) n.token
          → (s ≡ seen.Semicolon → ⊥) → ⊥
      by seen.Semicolon depth q stop h other = other refl
      by seen.Star depth q stop h other = stop.0 h
      by seen.Plus depth q stop h other = stop.1.0 h
      by seen.Minus depth q stop h other = stop.1.1 h
      by seen.RightParen zero q stop h other = none-some q.next q.step_is
      by s depth q stop h other = none-some q.next q.step_is

  -- an expression, where no other statement begins
  pub expr_start : (l.seen ≡ seen.RightBrace → ⊥) → (l.seen ≡ seen.LeftBrace → ⊥) → (l.seen ≡ seen.LetKey → ⊥) → (opens : List Open)
      → refusal_from (length bytes) (state AtLine opens) (tokens_at bytes at)
      ≡ refusal_from (length bytes) (state AtFactor opens) (tokens_at bytes at)
  expr_start right left key opens =
      let next : Placed = record { at = l.at; token = like l.seen } in
      let as_factor = judged (state AtFactor opens) next in
      judged_next bytes at l (state AtLine opens) as_factor n (ap (or_refused next) (same l.seen right left key))
      ∙ sym (judged_next bytes at l (state AtFactor opens) as_factor n refl)
    where
      same : (s : Seen) → (s ≡ seen.RightBrace → ⊥) → (s ≡ seen.LeftBrace → ⊥) → (s ≡ seen.LetKey → ⊥)
          → step (state AtLine opens) (like s) ≡ step (state AtFactor opens) (like s)
      same seen.RightBrace right left key = absurd (right refl)
      same seen.LeftBrace right left key = absurd (left refl)
      same seen.LetKey right left key = absurd (key refl)
      same s right left key = refl

-- ---- What a factor begins with

-- a sign, at a byte that begins neither a number nor a name
pub sign_token : {bytes : List ℕ} {at here : ℕ} → IsBegin bytes at here → is_digit (slice_index bytes here) ≡ false
    → is_name_start (slice_index bytes here) ≡ false → IsTokenAt bytes at (sign (slice_index bytes here)) (here + 1)
sign_token {bytes} {at} {here} begin digit name = grind (arith, nat_tests, first_sign)

-- no other sign than a minus and a parenthesis
no_factor : (opens : List Open) (b : ℕ) → (b == 45) ≡ false → (b == 40) ≡ false → step (state AtFactor opens) (sign b) ≡ None
no_factor opens b minus paren = rw (minus, paren) (by (b == 43) (b == 42) (b == 41) (b == 123) (b == 125) (b == 61) (b == 59))
  where
    by : (c d e f g h i : Bool)
        → step (state AtFactor opens) (cond c Plus (cond d Star (cond e RightParen (cond f LeftBrace (cond g RightBrace (cond h Equals
        (cond i Semicolon Other))))))) ≡ None
    by true d e f g h i = refl
    by false true e f g h i = refl
    by false false true f g h i = refl
    by false false false true g h i = refl
    by false false false false true h i = refl
    by false false false false false true i = refl
    by false false false false false false true = refl
    by false false false false false false false = refl

pub no_start : {bytes : List ℕ} {at here : ℕ} → IsBegin bytes at here → (slice_index bytes here == 45) ≡ false
    → (slice_index bytes here == 40) ≡ false → is_digit (slice_index bytes here) ≡ false → is_name_start (slice_index bytes here) ≡ false
    → NoFactor bytes at
no_start {bytes} {at} {here} begin minus paren digit name opens p =
    let q = passed_token (state AtFactor opens) (sign_token begin digit name) p in
    none-some q.next (sym (no_factor opens (slice_index bytes here) minus paren) ∙ q.step_is)

-- a word, by whether it is the keyword; the keyword begins no factor
pub word_token : {bytes : List ℕ} {at end : ℕ} (name : List ℕ) (key : Bool) → key ≡ bytes_eq name (codes "let")
    → IsTokenAt bytes at (word name) end → IsTokenAt bytes at (cond key LetKey (Word name)) end
word_token {bytes} {at} {end} name key is t = subst (λ k. IsTokenAt bytes at (cond k LetKey (Word name)) end) (sym is) t

pub no_keyword : {bytes : List ℕ} {at end : ℕ} → IsTokenAt bytes at LetKey end → NoFactor bytes at
no_keyword t opens p = let q = passed_token (state AtFactor opens) t p in none-some q.next q.step_is
