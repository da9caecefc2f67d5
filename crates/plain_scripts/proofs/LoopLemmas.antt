-- What one turn of a loop does to lists, sets and runs.
use Rattle.std.proofs.Common.{◌≡◌, ℕ, suc, ◌+◌, ◌-◌, ◌*◌, ◌<◌, ◌≤◌, refl, sym, ap, ◌∙◌, arith, Bool, true, false, Result, Ok, Err, List, [], ◌∷◌, ◌++◌, length, drop, take, get_or, drop-cons, add-one, append_assoc}
use Rattle.std.specs.Prelude.{OnErr, ◌==◌, if◌then◌else◌}
use Rattle.std.specs.List.{filter, list_any, range_with_len}
use Rattle.std.proofs.lemmas.Bool.Decides.{nat_tests}
use Rattle.std.proofs.lemmas.List.{append-nil, take_more}
use Rattle.arena_rules.specs.Bits.{Set, members}
use Rattle.arena_rules.specs.PrintedBits.{has_byte, highest, digits, lower, printed}
use Rattle.script_rules.specs.Objects.{Objects}
use Rattle.script_rules.specs.Machine.{Ran, step, run_from, ran_on}
use Rattle.script_rules.specs.declared.commands.Command.{Command}
use Rattle.script_rules.specs.declared.commands.ScriptReply.{ScriptReply}
use Rattle.script_rules.proofs.RunLemmas.{goes_on}

-- a list from an index on: the item there, and those after it
pub drop_at : {X : Type 0} (xs : List X) (i : ℕ) (x : X) → i < length xs → x ≡ get_or xs i x → drop i xs ≡ x ∷ drop (i + 1) xs
drop_at xs i x low is = rw add-one (drop-cons xs i x low ∙ ap (λ y. y ∷ drop (suc i) xs) (sym is))

-- ---- Numbers in a row

range_first : (from to : ℕ) → from < to → range_with_len from (to - from) ≡ from ∷ range_with_len (from + 1) (to - (from + 1))
range_first from to h = let e : to - from ≡ suc (to - (from + 1)) = omega arith in ap (range_with_len from) e

range_none : (from to : ℕ) → to ≤ from → range_with_len from (to - from) ≡ []
range_none from to h = let e : to - from ≡ 0 = omega arith in ap (range_with_len from) e

pub members_with : (set : Set) (from to : ℕ) → from < to → set from ≡ true → members set from to ≡ from ∷ members set (from + 1) to
unfolding members
members_with set from to h is_in = ap (filter set) (range_first from to h) ∙ rw is_in refl

pub members_without : (set : Set) (from to : ℕ) → from < to → set from ≡ false → members set from to ≡ members set (from + 1) to
unfolding members
members_without set from to h not_in = ap (filter set) (range_first from to h) ∙ rw not_in refl

pub members_none : (set : Set) (from to : ℕ) → to ≤ from → members set from to ≡ []
unfolding members
members_none set from to h = ap (filter set) (range_none from to h)

-- whether one of the numbers from this one on passes the test
abbrev pub some_from : (ℕ → Bool) → ℕ → ℕ → Bool
some_from p from to = list_any p (range_with_len from (to - from))

pub some_here : (p : ℕ → Bool) (from to : ℕ) → from < to → p from ≡ true → some_from p from to ≡ true
some_here p from to h passes = ap (list_any p) (range_first from to h) ∙ rw passes refl

pub some_later : (p : ℕ → Bool) (from to : ℕ) → from < to → p from ≡ false → some_from p from to ≡ some_from p (from + 1) to
some_later p from to h fails = ap (list_any p) (range_first from to h) ∙ rw fails refl

pub some_none : (p : ℕ → Bool) (from to : ℕ) → to ≤ from → some_from p from to ≡ false
some_none p from to h = ap (list_any p) (range_none from to h)

-- ---- Unions

-- ---- Printed forms

pub highest_here : (set : Set) (k n : ℕ) → n ≡ k + 1 → has_byte set k ≡ true → highest set n ≡ k
unfolding highest
highest_here set k n e has = ap (highest set) (e ∙ add-one k) ∙ rw has refl

pub highest_below : (set : Set) (k n : ℕ) → n ≡ k + 1 → has_byte set k ≡ false → highest set n ≡ highest set k
unfolding highest
highest_below set k n e has = ap (highest set) (e ∙ add-one k) ∙ rw has refl

pub highest_none : (set : Set) (n : ℕ) → n ≤ 0 → highest set n ≡ 0
unfolding highest
highest_none set n h = let e : n ≡ 0 = omega arith in ap (highest set) e

pub digits_more : (text : List ℕ) (set : Set) (from k n : ℕ) → n ≡ k + 1
    → (text ++ (if set (from + k) then 49 else 48) ∷ []) ++ digits set from k ≡ text ++ digits set from n
unfolding digits
digits_more text set from k n e =
    append_assoc text ((if set (from + k) then 49 else 48) ∷ []) (digits set from k)
    ∙ ap (λ m. text ++ digits set from m) (sym (e ∙ add-one k))

pub digits_none : (text : List ℕ) (set : Set) (from n : ℕ) → n ≤ 0 → text ++ digits set from n ≡ text
unfolding digits
digits_none text set from n h = let e : n ≡ 0 = omega arith in ap (λ m. text ++ digits set from m) e ∙ append-nil text

pub lower_more : (text : List ℕ) (set : Set) (k n : ℕ) → n ≡ k + 1
    → ((text ++ 95 ∷ []) ++ digits set (8 * k) 8) ++ lower set k ≡ text ++ lower set n
unfolding lower
lower_more text set k n e =
    append_assoc (text ++ 95 ∷ []) (digits set (8 * k) 8) (lower set k)
    ∙ append_assoc text (95 ∷ []) (digits set (8 * k) 8 ++ lower set k)
    ∙ ap (λ m. text ++ lower set m) (sym (e ∙ add-one k))

pub lower_none : (text : List ℕ) (set : Set) (n : ℕ) → n ≤ 0 → text ++ lower set n ≡ text
unfolding lower
lower_none text set n h = let e : n ≡ 0 = omega arith in ap (λ m. text ++ lower set m) e ∙ append-nil text

pub printed_none : (words : ℕ) (set : Set) → words ≤ 0 → printed words set ≡ []
unfolding printed
printed_none words set h = let t : (words == 0) ≡ true = grind (arith, nat_tests) in rw t refl

pub printed_some : (words top : ℕ) (set : Set) → 0 < words → top ≡ highest set (8 * words)
    → printed words set ≡ digits set (8 * top) 8 ++ lower set top
unfolding printed
printed_some words top set h e = grind (arith, nat_tests)

-- ---- Runs

pub run_more : (ran : Ran) (c : Command) (rest : List Command) → ran_on ran (c ∷ rest)
    ≡ ran_on (record {
      replies = ran.replies ++ (step c ran.objects).reply ∷ [];
      costs = ran.costs ++
          (step c ran.objects).cost ∷ [];
      objects = (step c ran.objects).objects;
    }) rest
unfolding run_from
run_more ran c rest = grind (arith, nat_tests, append_assoc)

pub run_begun : (objects : Objects) (commands : List Command) {replies : List ScriptReply} {costs : List ℕ} → replies ≡ [] → costs ≡ []
    → ran_on (record { replies = replies; costs = costs; objects = objects }) commands ≡ run_from objects commands
run_begun objects commands none free = grind (arith, nat_tests)

pub run_none : (ran : Ran) → ran_on ran [] ≡ ran
unfolding run_from
run_none ran = grind (arith, nat_tests, append-nil)

-- the objects after the first commands, and after one more
pub first_none : (objects : Objects) (commands : List Command) → objects ≡ (run_from objects (take 0 commands)).objects
unfolding run_from
first_none objects commands = refl

pub first_more : (objects : Objects) (commands : List Command) (i : ℕ) (c : Command) → i < length commands → c ≡ get_or commands i c
    → {now : Objects} → now ≡ (run_from objects (take i commands)).objects
    → (step c now).objects ≡ (run_from objects (take (i + 1) commands)).objects
unfolding run_from
first_more objects commands i c low is now =
    ap (λ o. (step c o).objects) now ∙ sym (ap (λ (r : Ran). r.objects) (goes_on objects (take i commands) (c ∷ [])))
    ∙ sym (ap (λ cs. (run_from objects cs).objects) (take_more commands i c low ∙ ap (λ x. take i commands ++ x ∷ []) (sym is)))

-- A run that failed after one more command leaves the objects after that many.
pub stops_after : (objects : Objects) (commands : List Command) (i : ℕ) (c : Command) → i < length commands → c ≡ get_or commands i c
    → {now later : Objects} → now ≡ (run_from objects (take i commands)).objects → later ≡ (step c now).objects
    → {X E : Type 0} (r : Result X E)
    → OnErr r ((n : ℕ) × (n ≤ length commands) × (later ≡ (run_from objects (take n commands)).objects))
stops_after objects commands i c low is now later (Ok x) = tt
stops_after objects commands i c low is now later (Err e) =
    (i + 1, omega (arith, low), later ∙ first_more objects commands i c low is now)
