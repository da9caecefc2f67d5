-- The machine's reading of a text is right, and the only one.
use Rattle.std.proofs.Common.{◌≡◌, ℕ, ◌≤◌, ◌<◌, inl, inr, Bool, true, false, cond, Option, Some, None, Ok, Err, List, [], ◌∷◌, ◌++◌, length, refl, sym, ap, ◌∙◌, subst, arith, append_assoc, append-nil}
use Rattle.std.specs.Prelude.{Result, nat_lt}
use Rattle.std.specs.List.{AllByRecursion}
use Rattle.std.proofs.lemmas.Bool.Decides.{nat_tests}
use Rattle.std.proofs.lemmas.Option.{none-some, same_Some}
use Rattle.arena_rules.proofs.ListLemmas.{all_append}
use Rattle.tree_rules.specs.Tokens.{Token, Placed, tokens, without_places}
use Rattle.tree_rules.specs.Trees.{Stmts}
use Rattle.tree_rules.specs.Grammar.{Program, spell, nest, trees_of, IsProgram, Begins, BeginsWithin}
use Rattle.tree_rules.specs.Refusals.{most_nest, Fits, ArePassed, IsCause, IsFirstRefused, EndsEarly, IsGood, TreeOf, IsReading}
use Rattle.tree_rules.specs.declared.machine.Open.{Open}
use Rattle.tree_rules.specs.declared.machine.Mode.{Mode}
use Rattle.tree_rules.specs.declared.machine.Mode.TheVariants.{AtLine}
use Rattle.tree_rules.specs.Reading.{State, state, step, start, is_too_big, or_refused, judged, ended, ended_in, refusal_from, refusal_of, refused_by}
use Rattle.tree_rules.specs.declared.refused.Refused.{Refused}
use Rattle.tree_rules.specs.declared.refused.Refused.TheVariants.{Syntax, TooDeep, NumberTooBig}
use Rattle.tree_rules.proofs.StepLemmas.{goes, goes_step}
use Rattle.tree_rules.specs.Places.{InProgram, InBlock}
use Rattle.tree_rules.proofs.Places.{Place, LinePlace, state_at, before, PlaceFits}
use Rattle.tree_rules.proofs.ProgramPlaces.{leads_begin}
use Rattle.tree_rules.proofs.Readings.{one_program}
use Rattle.tree_rules.proofs.FirstTokens.{goes_first, one_state, leads, program_over, begun, begun_step, begins_within, begins, step_begins, step_begins_some, size_fits, big_not_fit}
use Rattle.tree_rules.specs.Report.{IsReport, findings_of}
use Rattle.tree_rules.specs.declared.finding.Finding.{Finding}

-- ---- What the machine says is right

-- tokens that are accepted, and the state after them
record IsAt (front : List Placed) (s : State) : Type 0 where
  goes_is : goes most_nest start (without_places front) ≡ Some s
  fit : AllByRecursion Fits (without_places front)

passed : (front : List Placed) (s : State) → IsAt front s → ArePassed (without_places front)
passed front s a = record {
  begin = leads_begin most_nest (without_places front) s (leads most_nest (without_places front) s a.goes_is);
  fit = a.fit;
}

without_append : (xs ys : List Placed) → without_places (xs ++ ys) ≡ without_places xs ++ without_places ys
without_append [] ys = refl
without_append (x ∷ xs) ys = ap (λ more. x.token ∷ more) (without_append xs ys)

not_start_open : (mode : Mode) (o : Open) (opens : List Open) → state mode (o ∷ opens) ≡ start → ⊥
not_start_open mode o opens is = let e : o ∷ opens ≡ [] = ap (λ (s : State). s.opens) is in absurd (cc)

abbrev NotAtLine : Mode → Type 0
NotAtLine AtLine = ⊥
NotAtLine mode = Unit {0}

not_start_mode : (mode : Mode) (opens : List Open) → state mode opens ≡ start → NotAtLine mode → ⊥
not_start_mode mode opens is other = subst NotAtLine (ap (λ (s : State). s.mode) is) other

-- a program's end: nothing is open where a statement may begin
place_program : (most : ℕ) (ts : List Token) (c : Place) → state_at c ≡ start → ((more : List Token) → before c more ≡ ts ++ more)
    → PlaceFits most c
    → (p : Program) × (spell p [] ≡ ts) × (nest p ≤ most)
place_program most ts (LinePlace (InProgram p)) is before_is fits = (p, before_is [] ∙ append-nil ts, fits.1)
place_program most ts (LinePlace (InBlock p h)) is before_is fits = absurd (not_start_open _ _ _ is)
place_program most ts _ is before_is fits = absurd (not_start_mode _ _ is tt)

start_passes : (bytes : List ℕ) → IsAt (tokens bytes) start → (trees : Stmts) × IsGood bytes trees
start_passes bytes a =
    let ts = without_places (tokens bytes) in
    let l = leads most_nest ts start a.goes_is in
    let p = place_program most_nest ts l.place l.state_is l.before_is l.fits in (
      trees_of p.0,
      record {
        most = nest p.0;
        program = record { program = p.0; tokens_are = p.1; trees_are = refl; nest_is = refl };
        within = p.2;
        fit = a.fit;
      },
    )

no_program : (all : List Placed) (s : State) → IsAt all s → (s ≡ start → ⊥) → (trees : Stmts) (n : ℕ)
    → IsProgram (without_places all) trees n → ⊥
no_program all s a other trees n p =
    other (one_state most_nest n start s start (without_places all) a.goes_is
    (subst (λ ts. goes n start ts ≡ Some start) p.tokens_are (program_over p.program n (omega (arith, p.nest_is)))))

ends_early : (bytes : List ℕ) (s : State) → IsAt (tokens bytes) s → (s ≡ start → ⊥) → TreeOf bytes (Err (Syntax (length bytes)))
ends_early bytes s a other = inr (record { passed = passed _ s a; none = no_program _ s a other; place = refl })

says_end : (bytes : List ℕ) (s : State) → IsAt (tokens bytes) s → IsReading bytes (ended (length bytes) s)
says_end bytes s = by s.mode s.opens
  where
    by : (mode : Mode) (opens : List Open) → IsAt (tokens bytes) (state mode opens) → IsReading bytes (ended_in (length bytes) mode opens)
    by AtLine [] a = start_passes bytes a
    by AtLine (o ∷ opens) a = ends_early bytes _ a (not_start_open AtLine o opens)
    by mode opens a = ends_early bytes _ a (λ e. not_start_mode mode opens e tt)

goes_join : (most : ℕ) (s end next : State) (front : List Token) (t : Token) → goes most s front ≡ Some end → step end t ≡ Some next
    → length next.opens ≤ most → goes most s (front ++ t ∷ []) ≡ Some next
unfolding goes
goes_join most s end next [] t e is low =
    let same : s ≡ end = cc in
    goes_step most s t [] next (ap (λ (n : State). step n t) same ∙ is) low
goes_join most s end next (u ∷ front) t e is low =
    let g = goes_first most s u front end e in
    goes_step most s u (front ++ t ∷ []) g.next g.step_is g.low ∙ goes_join most g.next end next front t g.rest is low

-- the judgement of a token
abbrev Judges : List Placed → Placed → Result State Refused → Type 0
Judges front t (Err refused) = IsCause (without_places front) t.token t.at refused
Judges front t (Ok next) = IsAt (front ++ t ∷ []) next

further : (front : List Placed) (t : Placed) (s next : State) → IsAt front s → step s t.token ≡ Some next → length next.opens ≤ most_nest
    → Fits t.token → IsAt (front ++ t ∷ []) next
further front t s next a is low fits = record {
  goes_is = subst (λ xs. goes most_nest start xs ≡ Some next) (sym (without_append front (t ∷ [])))
      (goes_join most_nest start s next (without_places front) t.token a.goes_is is low);
  fit = subst (AllByRecursion Fits) (sym (without_append front (t ∷ []))) (all_append Fits (without_places front) (t.token ∷ []) a.fit (
    fits,
    tt,
  ));
}

judges_size : (front : List Placed) (t : Placed) (s next : State) → IsAt front s → step s t.token ≡ Some next
    → length next.opens ≤ most_nest
    → (b : Bool) → is_too_big t.token ≡ b → Judges front t (cond b (Err (NumberTooBig t.at)) (Ok next))
judges_size front t s next a is low b big = grind (arith, nat_tests, step_begins, big_not_fit, further, size_fits)

judges_depth : (front : List Placed) (t : Placed) (s next : State) → IsAt front s → step s t.token ≡ Some next
    → (b : Bool) → nat_lt most_nest (length next.opens) ≡ b
    → Judges front t (cond b (Err (TooDeep t.at)) (cond (is_too_big t.token) (Err (NumberTooBig t.at)) (Ok next)))
judges_depth front t s next a is true deep =
    let above : most_nest < length next.opens = grind (arith, nat_tests) in
    (refl, step_begins_some most_nest (without_places front) t.token s next a.goes_is is, too_deep above)
  where
    too_deep : most_nest < length next.opens → BeginsWithin most_nest (without_places front ++ t.token ∷ []) → ⊥
    too_deep above b =
        let g = begun_step most_nest most_nest (without_places front) t.token s a.goes_is b in
        let same : next ≡ g.next = cc (is, g.step_is) in
        let low : length next.opens ≤ most_nest = subst (λ (n : State). length n.opens ≤ most_nest) (sym same) g.low in
        omega (arith, above, low)
judges_depth front t s next a is false low =
    judges_size front t s next a is (grind (arith, nat_tests)) (is_too_big t.token) refl

judges_step : (front : List Placed) (t : Placed) (s : State) → IsAt front s → (o : Option State) → step s t.token ≡ o
    → Judges front t (or_refused t o)
judges_step front t s a None none = (refl, no_step)
  where
    no_step : Begins (without_places front ++ t.token ∷ []) → ⊥
    no_step b =
        let g = begun_step (nest b.program) most_nest (without_places front) t.token s a.goes_is (begins_within _ b) in
        none-some g.next (sym none ∙ g.step_is)
judges_step front t s a (Some next) is = judges_depth front t s next a is (nat_lt most_nest (length next.opens)) refl

judges : (front : List Placed) (t : Placed) (s : State) → IsAt front s → Judges front t (judged s t)
judges front t s a = judges_step front t s a (step s t.token) refl

says_judged : (bytes : List ℕ) (front ts : List Placed) (t : Placed) (s : State) → tokens bytes ≡ front ++ t ∷ ts → IsAt front s
    → (r : Result State Refused) → Judges front t r
    → ((next : State) → IsAt (front ++ t ∷ []) next → IsReading bytes (refusal_from (length bytes) next ts))
    → IsReading bytes (elim r [ Err refused ↦ Some refused | Ok next ↦ refusal_from (length bytes) next ts ])
says_judged bytes front ts t s is a (Err refused) cause go =
    inl (record { before = front; token = t; after = ts; all = is; passed = passed front s a; cause = cause })
says_judged bytes front ts t s is a (Ok next) at go = go next at

says_from : (bytes : List ℕ) (front ts : List Placed) (s : State) → tokens bytes ≡ front ++ ts → IsAt front s
    → IsReading bytes (refusal_from (length bytes) s ts)
unfolding refusal_from
says_from bytes front [] s is a = says_end bytes s (subst (λ xs. IsAt xs s) (sym (is ∙ append-nil front)) a)
says_from bytes front (t ∷ ts) s is a =
    says_judged bytes front ts t s is a (judged s t) (judges front t s a)
    (λ next at. says_from bytes (front ++ t ∷ []) ts next (is ∙ sym (append_assoc front (t ∷ []) ts)) at)

-- ---- The reading of a text

first_at : IsAt [] start
unfolding goes
first_at = record { goes_is = refl; fit = tt }

-- A text is a tree if the machine doesn't refuse it, and else it is refused as the machine says.
pub reading : (bytes : List ℕ) → IsReading bytes (refusal_of bytes)
reading bytes = says_from bytes [] (tokens bytes) start refl first_at

-- ---- And nothing else is right

judged_ok : (s next : State) (t : Placed) → step s t.token ≡ Some next → length next.opens ≤ most_nest → Fits t.token → judged s t ≡ Ok next
judged_ok s next t is low fits = grind (arith, nat_tests, size_fits)

over : (end : ℕ) (s last : State) (ts rest : List Placed) → goes most_nest s (without_places ts) ≡ Some last
    → AllByRecursion Fits (without_places ts)
    → refusal_from end s (ts ++ rest) ≡ refusal_from end last rest
unfolding goes refusal_from
over end s last [] rest e fits = let same : s ≡ last = cc in ap (λ n. refusal_from end n rest) same
over end s last (t ∷ ts) rest e fits =
    let g = goes_first most_nest s t.token (without_places ts) last e in
    ap (λ (r : Result State Refused). elim r [ Err refused ↦ Some refused | Ok next ↦ refusal_from end next (ts ++ rest) ])
    (judged_ok s g.next t g.step_is g.low fits.0)
    ∙ over end g.next last ts rest g.rest fits.1

one_cause : (front : List Token) (t : Token) (at : ℕ) (r q : Refused) → IsCause front t at r → IsCause front t at q → r ≡ q
one_cause front t at r q h g = grind (arith, nat_tests, begins)

-- the last of tokens that fit fits
last_fits : (front : List Token) (t : Token) → AllByRecursion Fits (front ++ t ∷ []) → Fits t
last_fits [] t h = h.0
last_fits (u ∷ front) t h = last_fits front t h.1

no_cause : (front : List Token) (t : Token) (at : ℕ) (q : Refused) → ArePassed (front ++ t ∷ []) → IsCause front t at q → ⊥
no_cause front t at (Syntax a) p h = h.1 (begins most_nest _ p.begin)
no_cause front t at (TooDeep a) p h = h.2 p.begin
no_cause front t at (NumberTooBig a) p h = h.2 (last_fits front t p.fit)

judged_cause : (front : List Placed) (t : Placed) (q : Refused) (r : Result State Refused) → Judges front t r
    → IsCause (without_places front) t.token t.at q → r ≡ Err q
judged_cause front t q r h cause = grind (arith, nat_tests, one_cause, no_cause, without_append, passed)

at_passed : (front : List Placed) → ArePassed (without_places front) → (s : State) × IsAt front s
at_passed front p =
    let b = begun most_nest (without_places front) p.begin in
    (b.0, record { goes_is = b.1; fit = p.fit })

first_says : (end : ℕ) (all : List Placed) (q : Refused) → IsFirstRefused all q → refusal_from end start all ≡ Some q
unfolding refusal_from
first_says end all q f =
    let a = at_passed f.before f.passed in
    ap (refusal_from end start) f.all
    ∙ over end start a.0 f.before (f.token ∷ f.after) a.1.goes_is a.1.fit
    ∙ ap (λ (r : Result State Refused). elim r [ Err refused ↦ Some refused | Ok next ↦ refusal_from end next f.after ])
    (judged_cause f.before f.token q (judged a.0 f.token) (judges f.before f.token a.0 a.1) f.cause)

ended_other : (end : ℕ) (mode : Mode) (opens : List Open) → (state mode opens ≡ start → ⊥) → ended_in end mode opens ≡ Some (Syntax end)
ended_other end mode opens other = grind (arith, nat_tests)

over_all : (end : ℕ) (s : State) (all : List Placed) → IsAt all s → refusal_from end start all ≡ ended end s
unfolding refusal_from
over_all end s all a = ap (refusal_from end start) (sym (append-nil all)) ∙ over end start s all [] a.goes_is a.fit

early_says : (bytes : List ℕ) (q : Refused) → EndsEarly bytes q → refusal_of bytes ≡ Some q
early_says bytes q e =
    let a = at_passed (tokens bytes) e.passed in
    let other : a.0 ≡ start → ⊥
    = λ is. let p = start_passes bytes (subst (IsAt (tokens bytes)) is a.1) in e.none p.0 p.1.most p.1.program in
    over_all (length bytes) a.0 (tokens bytes) a.1
    ∙ ended_other (length bytes) a.0.mode a.0.opens other
    ∙ ap Some (sym e.place)

good_says : (bytes : List ℕ) (trees : Stmts) → IsGood bytes trees → refusal_of bytes ≡ None
good_says bytes trees g =
    let p = g.program in
    let low : nest p.program ≤ most_nest = omega (arith, p.nest_is, g.within) in
    let all : goes most_nest start (without_places (tokens bytes)) ≡ Some start
    = subst (λ ts. goes most_nest start ts ≡ Some start) p.tokens_are (program_over p.program most_nest low) in
    over_all (length bytes) start (tokens bytes) (record { goes_is = all; fit = g.fit })

err_says : (bytes : List ℕ) (q : Refused) → TreeOf bytes (Err q) → refusal_of bytes ≡ Some q
err_says bytes q (inl first) = first_says (length bytes) (tokens bytes) q first
err_says bytes q (inr early) = early_says bytes q early

-- A text has one reading at most.
pub same_reading : (bytes : List ℕ) (r q : Result Stmts Refused) → TreeOf bytes r → TreeOf bytes q → r ≡ q
same_reading bytes (Ok a) (Ok b) h g = ap Ok (one_program (without_places (tokens bytes)) a b h.most g.most h.program g.program).0
same_reading bytes (Ok a) (Err q) h g = absurd (none-some q (sym (good_says bytes a h) ∙ err_says bytes q g))
same_reading bytes (Err r) (Ok b) h g = absurd (none-some r (sym (good_says bytes b g) ∙ err_says bytes r h))
same_reading bytes (Err r) (Err q) h g = ap Err (same_Some r q (sym (err_says bytes r h) ∙ err_says bytes q g))

some_from : (bytes : List ℕ) (o : Option Refused) → IsReading bytes o → (r : Result Stmts Refused) × TreeOf bytes r
some_from bytes None h = (Ok h.0, h.1)
some_from bytes (Some q) h = (Err q, h)

-- Each text has a reading.
pub some_reading : (bytes : List ℕ) → (r : Result Stmts Refused) × TreeOf bytes r
some_reading bytes = some_from bytes (refusal_of bytes) (reading bytes)

-- The machine refuses a text exactly as it is refused.
pub machine_says : (bytes : List ℕ) (r : Result Stmts Refused) → TreeOf bytes r → refusal_of bytes ≡ refused_by r
machine_says bytes r h = grind (arith, nat_tests, good_says, err_says)

-- ---- A text has exactly one report

pub same_report : (bytes : List ℕ) (r s : Result (List Finding) Refused) → IsReport bytes r → IsReport bytes s → r ≡ s
same_report bytes (Ok a) (Ok b) h g =
    let trees : h.0 ≡ g.0 = cc (same_reading bytes (Ok h.0) (Ok g.0) h.1 g.1) in
    ap Ok (h.2 ∙ ap findings_of trees ∙ sym g.2)
same_report bytes (Ok a) (Err q) h g = absurd (cc (same_reading bytes (Ok h.0) (Err q) h.1 g))
same_report bytes (Err p) (Ok b) h g = absurd (cc (same_reading bytes (Ok g.0) (Err p) g.1 h))
same_report bytes (Err p) (Err q) h g = let same : p ≡ q = cc (same_reading bytes (Err p) (Err q) h g) in ap Err same

pub some_report : (bytes : List ℕ) → (r : Result (List Finding) Refused) × IsReport bytes r
some_report bytes = from (some_reading bytes).0 (some_reading bytes).1
  where
    from : (r : Result Stmts Refused) → TreeOf bytes r → (s : Result (List Finding) Refused) × IsReport bytes s
    from (Ok trees) h = (Ok (findings_of trees), (trees, h, refl))
    from (Err q) h = (Err q, h)
