-- A text is that of one list of outcomes.
use Rattle.std.proofs.lemmas.Bool.Decides.{nat_tests}
use Rattle.std.proofs.Common.{◌≡◌, ℕ, zero, suc, ◌+◌, ◌≤◌, Bool, true, false, List, [], ◌∷◌, ◌++◌, length, length-append, map, drop, refl, sym, ap, ◌∙◌, arith, append_assoc, codes}
use Rattle.std.specs.Prelude.{◌==◌, if◌then◌else◌}
use Rattle.std.specs.List.{AllByRecursion, flat_map}
use Rattle.std.proofs.lemmas.List.{map-append}
use Rattle.arena_rules.proofs.ListLemmas.{all_append}
use Rattle.line_parts.specs.Numbers.{number, fields, with_feed}
use Rattle.line_parts.proofs.NumberLemmas.{read_front, read_number, Stops}
use Rattle.line_parts.proofs.FieldLemmas.{read_by, read_field, read_field_back, read_hex, read_hex_back}
use Rattle.script_rules.specs.Outcomes.{fields_or_dash, text_or_dash, reply_line, ended_line, Told, told, lines_from, text_of_outcomes, IsPrintedByte, HasBytes, HaveBytes}
use Rattle.script_rules.specs.declared.outcome.Outcome.{Outcome}
use Rattle.script_rules.specs.declared.commands.Ended.{Ended}
use Rattle.script_rules.specs.declared.commands.Ended.TheVariants as ended
use Rattle.script_rules.specs.declared.commands.ScriptReply.{ScriptReply}
use Rattle.script_rules.specs.declared.commands.ScriptReply.TheVariants.{Done, Number, Nothing, Truth, Bytes, Numbers, Printed, NoSuchName, NameTaken, WrongKind, OutOfRange, NotAscii, CapacityOverflow}
use Rattle.std.proofs.lemmas.Bool.{ne_eqb}

-- ---- Numbers after spaces, and printed forms, read back

begins_with : ℕ → List ℕ → Bool
begins_with b [] = false
begins_with b (c ∷ cs) = b == c

-- reads numbers while a space comes before each, at most this many
read_many : ℕ → List ℕ → List ℕ × List ℕ
read_many zero text = ([], text)
read_many (suc k) [] = ([], [])
read_many (suc k) (c ∷ cs) =
    if c == 32 then (let f = read_front 0 cs in let more = read_many k f.1 in (f.0 ∷ more.0, more.1)) else ([], c ∷ cs)

read_many_back : (ns rest : List ℕ) (k : ℕ) → length ns ≤ k → read_many k (fields ns ++ 10 ∷ rest) ≡ (ns, 10 ∷ rest)
unfolding read_many
read_many_back [] rest zero h = refl
read_many_back [] rest (suc k) h = refl
read_many_back (n ∷ ns) rest zero h = absurd (omega arith)
read_many_back (n ∷ ns) rest (suc k) h =
    let first = ap (read_front 0) (append_assoc (number n) (fields ns) (10 ∷ rest)) ∙ read_number n (fields ns ++ 10 ∷ rest) (stops ns) in
    ap (λ f. let more = read_many k f.1 in (f.0 ∷ more.0, more.1)) first
    ∙ ap (λ more. (n ∷ more.0, more.1)) (read_many_back ns rest k (omega arith))
  where
    stops : (ms : List ℕ) → Stops (fields ms ++ 10 ∷ rest)
    stops [] = refl
    stops (m ∷ ms) = refl

length_fields : (ns : List ℕ) → length ns ≤ length (fields ns)
length_fields [] = omega arith
length_fields (n ∷ ns) = omega (arith, length_fields ns, length-append (number n) (fields ns))

-- a dash in the place of a number says that there is none
undashed : List ℕ × List ℕ → List ℕ × List ℕ
undashed f = if begins_with 45 f.1 then ([], drop 1 f.1) else f

read_numbers : List ℕ → List ℕ × List ℕ
read_numbers text = undashed (read_many (length text) text)

read_numbers_back : (ns rest : List ℕ) → read_numbers (fields_or_dash ns ++ 10 ∷ rest) ≡ (ns, 10 ∷ rest)
unfolding read_numbers undashed begins_with read_many
read_numbers_back [] rest = refl
read_numbers_back (n ∷ ns) rest =
    let text = fields (n ∷ ns) ++ 10 ∷ rest in
    let enough : length (n ∷ ns) ≤ length text = omega (arith, length_fields (n ∷ ns), length-append (fields (n ∷ ns)) (10 ∷ rest)) in
    ap undashed (read_many_back (n ∷ ns) rest (length text) enough)

read_to_feed : List ℕ → List ℕ × List ℕ
read_to_feed [] = ([], [])
read_to_feed (c ∷ cs) = if c == 10 then ([], c ∷ cs) else (let more = read_to_feed cs in (c ∷ more.0, more.1))

read_to_feed_back : (bytes rest : List ℕ) → AllByRecursion IsPrintedByte bytes → read_to_feed (bytes ++ 10 ∷ rest) ≡ (bytes, 10 ∷ rest)
unfolding read_to_feed
read_to_feed_back [] rest h = refl
read_to_feed_back (b ∷ bytes) rest h =
    rw (ne_eqb b 10 h.0.0, read_to_feed_back bytes rest h.1)

read_printed : List ℕ → List ℕ × List ℕ
read_printed text = let f = read_to_feed text in if begins_with 45 f.0 then ([], f.1) else f

read_printed_back : (bytes rest : List ℕ) → AllByRecursion IsPrintedByte bytes
    → read_printed (text_or_dash bytes ++ 10 ∷ rest) ≡ (bytes, 10 ∷ rest)
unfolding read_printed read_to_feed begins_with
read_printed_back bytes rest h = grind (arith, nat_tests, begins_with, read_to_feed_back, ne_eqb)

-- ---- Lines

data Line : Type 0 where
  Begins : (i : ℕ) → Line
  Says : (reply : ScriptReply) → Line
  Ends : (how : Ended) → Line

abbrev line_of : Line → List ℕ
line_of (Begins i) = codes "script" ++ fields (i ∷ [])
line_of (Says reply) = reply_line reply
line_of (Ends how) = ended_line how

abbrev IsGood : Line → Type 0
IsGood (Begins i) = Unit {0}
IsGood (Says reply) = HasBytes reply
IsGood (Ends how) = Unit {0}

abbrev said : {A : Type 0} → (A → ScriptReply) → A × List ℕ → Line × List ℕ
said make f = (Says (make f.0), f.1)

abbrev says : ScriptReply → List ℕ → Line × List ℕ
says reply text = (Says reply, text)

-- the first line, and what follows it
abbrev read_line : List ℕ → Line × List ℕ
read_line = read_by (Says OutOfRange, [])
    ((codes "script", read_field Begins)
    ∷ (codes "ended done", λ text. (Ends ended.Done, text))
    ∷ (codes "ended full", λ text. (Ends ended.Full, text))
    ∷ (codes "ended refused", λ text. (Ends ended.Refused, text))
    ∷ (codes "ended out of memory", λ text. (Ends ended.OutOfMemory, text))
    ∷ (codes "done", says Done)
    ∷ (codes "numbers", λ text. said Numbers (read_numbers text))
    ∷ (codes "number", λ text. said Number (read_field (λ n. n) text))
    ∷ (codes "nothing", says Nothing)
    ∷ (codes "true", says (Truth true))
    ∷ (codes "false", says (Truth false))
    ∷ (codes "bytes ", λ text. said Bytes (read_hex text))
    ∷ (codes "printed ", λ text. said Printed (read_printed text))
    ∷ (codes "no such name", says NoSuchName)
    ∷ (codes "name taken", says NameTaken)
    ∷ (codes "wrong kind", says WrongKind)
    ∷ (codes "out of range", says OutOfRange)
    ∷ (codes "not ascii", says NotAscii)
    ∷ (codes "capacity overflow", says CapacityOverflow)
    ∷ [])

read_reply_line : (r : ScriptReply) (rest : List ℕ) → HasBytes r → read_line (reply_line r ++ 10 ∷ rest) ≡ (Says r, 10 ∷ rest)
read_reply_line (Number n) rest h = ap (said Number) (read_field_back (λ m. m) n (10 ∷ rest) refl)
read_reply_line (Bytes bytes) rest h = ap (said Bytes) (read_hex_back bytes rest h)
read_reply_line (Numbers ns) rest h = ap (said Numbers) (read_numbers_back ns rest)
read_reply_line (Printed bytes) rest h = ap (said Printed) (read_printed_back bytes rest h)
read_reply_line (Truth true) rest h = refl
read_reply_line _ rest h = refl

read_ended_line : (e : Ended) (rest : List ℕ) → read_line (ended_line e ++ 10 ∷ rest) ≡ (Ends e, 10 ∷ rest)
read_ended_line e rest = grind (arith, nat_tests)

read_line_back : (l : Line) (rest : List ℕ) → IsGood l → read_line (line_of l ++ 10 ∷ rest) ≡ (l, 10 ∷ rest)
read_line_back (Begins i) rest h = read_field_back Begins i (10 ∷ rest) refl
read_line_back (Says r) rest h = read_reply_line r rest h
read_line_back (Ends e) rest h = read_ended_line e rest

abbrev text_of : List Line → List ℕ
text_of lines = flat_map with_feed (map line_of lines)

read_back : (l : Line) (rest : List ℕ) → IsGood l → read_line (with_feed (line_of l) ++ rest) ≡ (l, 10 ∷ rest)
read_back l rest h = ap read_line (append_assoc (line_of l) (10 ∷ []) rest) ∙ read_line_back l rest h

not_empty : (l : Line) (rest : List ℕ) → [] ≡ with_feed (line_of l) ++ rest → ⊥
not_empty l rest e = grind (arith, nat_tests, length-append)

same_lines : (a b : List Line) → AllByRecursion IsGood a → AllByRecursion IsGood b → text_of a ≡ text_of b → a ≡ b
same_lines [] [] h g e = refl
same_lines [] (m ∷ b) h g e = absurd (not_empty m (text_of b) e)
same_lines (l ∷ a) [] h g e = absurd (not_empty l (text_of a) (sym e))
same_lines (l ∷ a) (m ∷ b) h g e =
    let read : ◌≡◌ {A = Line × List ℕ} (l, 10 ∷ text_of a) (m, 10 ∷ text_of b)
    = sym (read_back l (text_of a) h.0) ∙ ap read_line e ∙ read_back m (text_of b) g.0 in
    let first : l ≡ m = ap (λ (p : Line × List ℕ). p.0) read in
    let more : a ≡ b = same_lines a b h.1 g.1 (ap (λ (p : Line × List ℕ). drop 1 p.1) read) in
    cc

-- ---- Outcomes

abbrev outcome_of : Told → List Line
outcome_of o = map Says o.replies ++ Ends o.ended ∷ []

abbrev all_lines : ℕ → List Told → List Line
all_lines i [] = []
all_lines i (o ∷ os) = (Begins i ∷ outcome_of o) ++ all_lines (i + 1) os

said_lines : (rs : List ScriptReply) → map line_of (map Says rs) ≡ map reply_line rs
said_lines [] = refl
said_lines (r ∷ rs) = ap (λ more. reply_line r ∷ more) (said_lines rs)

lines_all : (i : ℕ) (os : List Told) → map line_of (all_lines i os) ≡ lines_from i os
lines_all i [] = refl
lines_all i (o ∷ os) = ap (λ more. line_of (Begins i) ∷ more)
    (map-append line_of (outcome_of o) (all_lines (i + 1) os)
    ∙ ap (λ front. front ++ map line_of (all_lines (i + 1) os)) (map-append line_of (map Says o.replies) (Ends o.ended ∷ [])
    ∙ ap (λ rs. rs ++ ended_line o.ended ∷ []) (said_lines o.replies))
    ∙ ap (λ more. (map reply_line o.replies ++ ended_line o.ended ∷ []) ++ more) (lines_all (i + 1) os))

good_replies : (rs : List ScriptReply) → AllByRecursion HasBytes rs → AllByRecursion IsGood (map Says rs)
good_replies [] h = tt
good_replies (r ∷ rs) h = (h.0, good_replies rs h.1)

all_good : (i : ℕ) (os : List Told) → AllByRecursion (λ o. AllByRecursion HasBytes o.replies) os → AllByRecursion IsGood (all_lines i os)
all_good i [] h = tt
all_good i (o ∷ os) h = (
  tt,
  all_append IsGood (outcome_of o) (all_lines (i + 1) os)
      (all_append IsGood (map Says o.replies) (Ends o.ended ∷ []) (good_replies o.replies h.0) (tt, tt)) (all_good (i + 1) os h.1),
)

-- from the last line on: the replies and the ending of an outcome that has not begun, and the outcomes after it
gather : List Line → List ScriptReply × Ended × List Told
gather [] = ([], ended.Done, [])
gather (Begins i ∷ ls) = let p = gather ls in ([], ended.Done, record { replies = p.0; ended = p.1 } ∷ p.2)
gather (Says r ∷ ls) = let p = gather ls in (r ∷ p.0, p.1, p.2)
gather (Ends e ∷ ls) = let p = gather ls in ([], e, p.2)

gather_one : (rs : List ScriptReply) (e : Ended) (ls : List Line) → gather ((map Says rs ++ Ends e ∷ []) ++ ls) ≡ (rs, e, (gather ls).2)
unfolding gather
gather_one [] e ls = refl
gather_one (r ∷ rs) e ls = ap (λ p. (r ∷ p.0, p.1, p.2)) (gather_one rs e ls)

gather_all : (i : ℕ) (os : List Told) → (gather (all_lines i os)).2 ≡ os
unfolding gather
gather_all i [] = refl
gather_all i (o ∷ os) =
    ap (λ p. record { replies = p.0; ended = p.1 } ∷ p.2) (gather_one o.replies o.ended (all_lines (i + 1) os))
    ∙ ap (λ more. o ∷ more) (gather_all (i + 1) os)

same_told : (a b : List Told) → AllByRecursion (λ o. AllByRecursion HasBytes o.replies) a
    → AllByRecursion (λ o. AllByRecursion HasBytes o.replies) b
    → flat_map with_feed (lines_from 0 a) ≡ flat_map with_feed (lines_from 0 b) → a ≡ b
same_told a b h g e =
    let lines : all_lines 0 a ≡ all_lines 0 b = same_lines (all_lines 0 a) (all_lines 0 b) (all_good 0 a h) (all_good 0 b g)
    (ap (flat_map with_feed) (lines_all 0 a) ∙ e ∙ sym (ap (flat_map with_feed) (lines_all 0 b))) in
    sym (gather_all 0 a) ∙ ap (λ ls. (gather ls).2) lines ∙ gather_all 0 b

have_told : (os : List Outcome) → AllByRecursion HaveBytes os
    → AllByRecursion (λ (o : Told). AllByRecursion HasBytes o.replies) (map told os)
have_told [] h = tt
have_told (o ∷ os) h = (h.0, have_told os h.1)

pub same_outcomes : (a b : List Outcome) → AllByRecursion HaveBytes a → AllByRecursion HaveBytes b
    → text_of_outcomes a ≡ text_of_outcomes b → map told a ≡ map told b
same_outcomes a b h g e = same_told (map told a) (map told b) (have_told a h) (have_told b g) e
