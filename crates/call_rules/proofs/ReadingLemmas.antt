-- Bytes have at most one reading.
use Rattle.std.proofs.Common.{◌≡◌, ℕ, suc, ◌+◌, List, [], ◌∷◌, ◌++◌, length, drop, get_or, refl, sym, ap, ◌∙◌, subst, append_assoc, codes, Ok, Err}
use Rattle.std.specs.Prelude.{Result}
use Rattle.line_parts.specs.Numbers.{fields, hex, lines_of}
use Rattle.call_rules.specs.Grammar.{call_line, Fits, IsRefused, AreCalls, CallsOf}
use Rattle.call_rules.specs.declared.calls.Call.{Call}
use Rattle.call_rules.specs.declared.calls.Call.TheVariants.{Alloc, Grow, Shrink, Dealloc, Write, Read, Mark, Back, Reset, Used, Allocated}
use Rattle.line_parts.proofs.FieldLemmas.{read_by, read_fields, read_fields_back, read_field, read_field_back, read_hex, read_hex_back}

abbrev pub alloc_of : List ℕ → Call
alloc_of ns = Alloc (get_or ns 0 0) (get_or ns 1 0) (get_or ns 2 0) (get_or ns 3 0)

abbrev pub grow_of : List ℕ → Call
grow_of ns = Grow (get_or ns 0 0) (get_or ns 1 0) (get_or ns 2 0) (get_or ns 3 0)

abbrev pub shrink_of : List ℕ → Call
shrink_of ns = Shrink (get_or ns 0 0) (get_or ns 1 0) (get_or ns 2 0)

-- a name and an offset in front of bytes
abbrev pub write_of : List ℕ × List ℕ → Call
write_of f = Write (get_or f.0 0 0) (get_or f.0 1 0) (read_hex (drop 1 f.1)).0

-- the call of a line that ends with a line feed
abbrev pub read_call : List ℕ → Call
read_call = read_by Used
    ((codes "allocated", λ text. Allocated)
    ∷ (codes "alloc", λ text. alloc_of (read_fields 4 text).0)
    ∷ (codes "grow", λ text. grow_of (read_fields 4 text).0)
    ∷ (codes "shrink", λ text. shrink_of (read_fields 3 text).0)
    ∷ (codes "dealloc", λ text. (read_field Dealloc text).0)
    ∷ (codes "write", λ text. write_of (read_fields 2 text))
    ∷ (codes "read", λ text. (read_field Read text).0)
    ∷ (codes "mark", λ text. (read_field Mark text).0)
    ∷ (codes "back", λ text. (read_field Back text).0)
    ∷ (codes "reset", λ text. Reset)
    ∷ (codes "used", λ text. Used)
    ∷ [])

pub read_call_back : (c : Call) → Fits c → read_call (call_line c ++ 10 ∷ []) ≡ c
read_call_back (Alloc name size align fill) h = ap (λ f. alloc_of f.0) (read_fields_back (name ∷ size ∷ align ∷ fill ∷ []) (10 ∷ []) refl)
read_call_back (Grow name size align fill) h = ap (λ f. grow_of f.0) (read_fields_back (name ∷ size ∷ align ∷ fill ∷ []) (10 ∷ []) refl)
read_call_back (Shrink name size align) h = ap (λ f. shrink_of f.0) (read_fields_back (name ∷ size ∷ align ∷ []) (10 ∷ []) refl)
read_call_back (Dealloc name) h = ap (λ f. f.0) (read_field_back Dealloc name (10 ∷ []) refl)
read_call_back (Write name at bytes) h =
    ap (λ text. write_of (read_fields 2 text)) (append_assoc (fields (name ∷ at ∷ [])) (32 ∷ hex bytes) (10 ∷ []))
    ∙ ap write_of (read_fields_back (name ∷ at ∷ []) (32 ∷ hex bytes ++ 10 ∷ []) refl)
    ∙ ap (λ f. Write name at f.0) (read_hex_back bytes [] h.2)
read_call_back (Read name) h = ap (λ f. f.0) (read_field_back Read name (10 ∷ []) refl)
read_call_back (Mark name) h = ap (λ f. f.0) (read_field_back Mark name (10 ∷ []) refl)
read_call_back (Back name) h = ap (λ f. f.0) (read_field_back Back name (10 ∷ []) refl)
read_call_back _ h = refl

-- the calls of lines that are all empty or calls
abbrev read_calls : List (List ℕ) → List Call
read_calls [] = []
read_calls ([] ∷ lines) = read_calls lines
read_calls ((b ∷ line) ∷ lines) = read_call (b ∷ line ++ 10 ∷ []) ∷ read_calls lines

read_calls_back : (lines : List (List ℕ)) (calls : List Call) → AreCalls lines calls → read_calls lines ≡ calls
read_calls_back [] [] are = refl
read_calls_back [] (c ∷ calls) are = absurd are
read_calls_back ([] ∷ lines) calls are = read_calls_back lines calls are
read_calls_back ((b ∷ line) ∷ lines) [] are = absurd are
read_calls_back ((b ∷ line) ∷ lines) (c ∷ calls) are =
    let first = ap (λ text. read_call (text ++ 10 ∷ [])) are.0.text ∙ read_call_back c are.0.fits in
    ap (λ call. call ∷ read_calls lines) first ∙ ap (λ more. c ∷ more) (read_calls_back lines calls are.1)

-- the lines after the first are calls if all are
later_calls : (line : List ℕ) (lines : List (List ℕ)) (calls : List Call) → AreCalls (line ∷ lines) calls → (later : List Call)
    × AreCalls lines later
later_calls [] lines calls are = (calls, are)
later_calls (b ∷ line) lines [] are = absurd are
later_calls (b ∷ line) lines (c ∷ calls) are = (calls, are.1)

none_refused : (before after : List (List ℕ)) (line : List ℕ) (calls : List Call) → AreCalls (before ++ line ∷ after) calls → IsRefused line
    → ⊥
none_refused [] after [] calls are bad = bad.some refl
none_refused [] after (b ∷ line) [] are bad = are
none_refused [] after (b ∷ line) (c ∷ calls) are bad = bad.none c are.0
none_refused (l ∷ before) after line calls are bad =
    let later = later_calls l (before ++ line ∷ after) calls are in
    none_refused before after line later.0 later.1 bad

-- there is only one first refused line
same_place : (a b : List (List ℕ)) (x y : List ℕ) (more others : List (List ℕ)) (c d : List Call)
    → AreCalls a c → AreCalls b d → IsRefused x → IsRefused y → a ++ x ∷ more ≡ b ++ y ∷ others → length a ≡ length b
same_place [] [] x y more others c d p q r s e = refl
same_place [] (l ∷ b) x y more others c d p q r s e =
    let first : x ≡ l = cc in
    absurd (none_refused [] b l d q (subst IsRefused first r))
same_place (l ∷ a) [] x y more others c d p q r s e =
    let first : y ≡ l = cc in
    absurd (none_refused [] a l c p (subst IsRefused first s))
same_place (l ∷ a) (m ∷ b) x y more others c d p q r s e =
    let rest : a ++ x ∷ more ≡ b ++ y ∷ others = cc in
    let front = later_calls l a c p in
    let other = later_calls m b d q in
    ap suc (same_place a b x y more others front.0 other.0 front.1 other.1 r s rest)

pub same_reading : (bytes : List ℕ) (r s : Result (List Call) ℕ) → CallsOf bytes r → CallsOf bytes s → r ≡ s
same_reading bytes (Ok a) (Ok b) p q = ap Ok (sym (read_calls_back (lines_of bytes) a p) ∙ read_calls_back (lines_of bytes) b q)
same_reading bytes (Ok a) (Err n) p q =
    absurd (none_refused q.before q.after q.line a (subst (λ lines. AreCalls lines a) q.all p) q.bad)
same_reading bytes (Err n) (Ok a) p q =
    absurd (none_refused p.before p.after p.line a (subst (λ lines. AreCalls lines a) p.all q) p.bad)
same_reading bytes (Err n) (Err m) p q =
    let same = same_place p.before q.before p.line q.line p.after q.after p.calls q.calls p.good q.good p.bad q.bad (sym p.all ∙ q.all) in
    ap Err (p.number ∙ ap (λ k. k + 1) same ∙ sym q.number)
