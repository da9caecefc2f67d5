-- Tokens that are accepted one by one, the beginnings of a program, and numbers.
use Rattle.std.proofs.Common.{◌≡◌, ℕ, ◌≤◌, max, Bool, true, false, cond, Option, Some, None, List, [], ◌∷◌, ◌++◌, length, refl, sym, ◌∙◌, subst, arith, append_assoc, append-nil}
use Rattle.std.specs.Prelude.{nat_le}
use Rattle.std.proofs.lemmas.Bool.Decides.{nat_tests}
use Rattle.std.proofs.lemmas.Option.{none-some}
use Rattle.tree_rules.specs.Tokens.{Token}
use Rattle.tree_rules.specs.Grammar.{Program, spell, nest, Begins, BeginsWithin}
use Rattle.tree_rules.specs.Refusals.{Fits}
use Rattle.tree_rules.specs.Reading.{State, step, start, is_too_big}
use Rattle.tree_rules.proofs.StepLemmas.{goes, kept, and_then, goes_step, program_goes}
use Rattle.tree_rules.proofs.ProgramPlaces.{Leads, leads_first, leads_on, leads_begin}

-- ---- Accepting tokens

-- A first token was accepted.
pub record Goes (most : ℕ) (s : State) (t : Token) (ts : List Token) (end : State) : Type 0 where
  pub next : State
  pub step_is : step s t ≡ Some next
  pub low : length next.opens ≤ most
  pub rest : goes most next ts ≡ Some end

pub goes_first : (most : ℕ) (s : State) (t : Token) (ts : List Token) (end : State) → goes most s (t ∷ ts) ≡ Some end → Goes most s t ts end
unfolding goes
goes_first most s t ts end e = by (step s t) refl e
  where
    kept_first : (next : State) → step s t ≡ Some next → (b : Bool) → nat_le (length next.opens) most ≡ b
        → and_then (cond b (Some next) None) (λ n. goes most n ts) ≡ Some end → Goes most s t ts end
    kept_first next is true test rest = record { next = next; step_is = is; low = grind (arith, nat_tests); rest = rest }
    kept_first next is false test rest = absurd (none-some end rest)

    by : (o : Option State) → step s t ≡ o → and_then (kept most o) (λ n. goes most n ts) ≡ Some end → Goes most s t ts end
    by None is rest = absurd (none-some end rest)
    by (Some next) is rest = kept_first next is (nat_le (length next.opens) most) refl rest

-- over the first tokens, and then over the rest
pub record GoesApart (most : ℕ) (s : State) (front rest : List Token) (end : State) : Type 0 where
  pub mid : State
  pub first : goes most s front ≡ Some mid
  pub then : goes most mid rest ≡ Some end

goes_apart : (most : ℕ) (s end : State) (front rest : List Token) → goes most s (front ++ rest) ≡ Some end → GoesApart most s front rest end
unfolding goes
goes_apart most s end [] rest e = record { mid = s; first = refl; then = e }
goes_apart most s end (t ∷ front) rest e =
    let g = goes_first most s t (front ++ rest) end e in
    let a = goes_apart most g.next end front rest g.rest in
    record { mid = a.mid; first = goes_step most s t front g.next g.step_is g.low ∙ a.first; then = a.then }

-- to one state alone, however much may be open
pub one_state : (a b : ℕ) (s end other : State) (ts : List Token) → goes a s ts ≡ Some end → goes b s ts ≡ Some other → end ≡ other
unfolding goes
one_state a b s end other [] e f = cc
one_state a b s end other (t ∷ ts) e f =
    let g = goes_first a s t ts end e in
    let h = goes_first b s t ts other f in
    let same : g.next ≡ h.next = cc (g.step_is, h.step_is) in
    one_state a b g.next end other ts g.rest (subst (λ n. goes b n ts ≡ Some other) (sym same) h.rest)

-- with more that may be open
goes_more : (a b : ℕ) (s end : State) (ts : List Token) → a ≤ b → goes a s ts ≡ Some end → goes b s ts ≡ Some end
unfolding goes
goes_more a b s end [] le e = e
goes_more a b s end (t ∷ ts) le e =
    let g = goes_first a s t ts end e in
    goes_step b s t ts g.next g.step_is (omega (arith, g.low)) ∙ goes_more a b g.next end ts le g.rest

-- from tokens that lead to a state on
goes_leads : (most : ℕ) (front ts : List Token) (s end : State) → Leads most front s → goes most s ts ≡ Some end
    → Leads most (front ++ ts) end
unfolding goes
goes_leads most front [] s end l e =
    let same : s ≡ end = cc in
    subst (λ (n : State). Leads most (front ++ []) n) same (subst (λ ts. Leads most ts s) (sym (append-nil front)) l)
goes_leads most front (t ∷ ts) s end l e =
    let g = goes_first most s t ts end e in
    subst (λ all. Leads most all end) (append_assoc front (t ∷ []) ts)
    (goes_leads most (front ++ t ∷ []) ts g.next end (leads_on most front t s g.next l g.step_is g.low) g.rest)

pub leads : (most : ℕ) (ts : List Token) (end : State) → goes most start ts ≡ Some end → Leads most ts end
leads most ts end e = goes_leads most [] ts start end (leads_first most) e

-- ---- Tokens that begin a program

pub program_over : (p : Program) (most : ℕ) → nest p ≤ most → goes most start (spell p []) ≡ Some start
unfolding goes
program_over p most low = program_goes p most [] [] tt (omega (arith, low))

-- Tokens that begin a program are accepted.
pub begun : (most : ℕ) (front : List Token) → BeginsWithin most front → (s : State) × (goes most start front ≡ Some s)
begun most front b =
    let a = goes_apart most start start front b.more (subst (λ ts. goes most start ts ≡ Some start) b.tokens_are (program_over b.program
    most b.within)) in
    (a.mid, a.first)

pub begun_step : (most : ℕ) (least : ℕ) (front : List Token) (t : Token) (s : State) → goes least start front ≡ Some s
    → (b : BeginsWithin most (front ++ t ∷ [])) → Goes most s t b.more start
begun_step most least front t s is b =
    let all : spell b.program [] ≡ front ++ t ∷ b.more = b.tokens_are ∙ append_assoc front (t ∷ []) b.more in
    let a = goes_apart most start start front (t ∷ b.more) (subst (λ ts. goes most start ts ≡ Some start) all (program_over b.program
    most b.within)) in
    let same : a.mid ≡ s = one_state most least start a.mid s front a.first is in
    subst (λ n. Goes most n t b.more start) same (goes_first most a.mid t b.more start a.then)

pub begins_within : (ts : List Token) (b : Begins ts) → BeginsWithin (nest b.program) ts
begins_within ts b = record { program = b.program; more = b.more; tokens_are = b.tokens_are; within = omega arith }

pub begins : (most : ℕ) (ts : List Token) → BeginsWithin most ts → Begins ts
begins most ts b = record { program = b.program; more = b.more; tokens_are = b.tokens_are }

-- a step leads on, within what is then open
pub step_begins : (most : ℕ) (front : List Token) (t : Token) (s next : State) → goes most start front ≡ Some s → step s t ≡ Some next
    → length next.opens ≤ most → BeginsWithin most (front ++ t ∷ [])
step_begins most front t s next is step_is low = leads_begin most (front ++ t ∷ []) next (leads_on most front t s next (leads most front
    s is) step_is low)

pub step_begins_some : (most : ℕ) (front : List Token) (t : Token) (s next : State) → goes most start front ≡ Some s → step s t ≡ Some next
    → Begins (front ++ t ∷ [])
step_begins_some most front t s next is step_is =
    let most' = max most (length next.opens) in
    begins most' (front ++ t ∷ []) (step_begins most' front t s next (goes_more most most' start s front (omega arith) is) step_is (omega
    arith))

-- ---- Numbers

-- a token fits exactly where it isn't too big
pub size_fits : (t : Token) → (Fits t → is_too_big t ≡ false) × (is_too_big t ≡ false → Fits t)
size_fits t = (λ h. grind (arith, nat_tests), λ e. grind (arith, nat_tests))

pub big_not_fit : (t : Token) → is_too_big t ≡ true → Fits t → ⊥
big_not_fit t big h = let small = (size_fits t).0 h in absurd (cc)
