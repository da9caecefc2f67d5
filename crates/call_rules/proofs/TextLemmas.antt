-- A text of replies belongs to one list of replies.
use Rattle.std.proofs.Common.{◌≡◌, ℕ, List, [], ◌∷◌, ◌++◌, length, length-append, drop, refl, sym, ap, ◌∙◌, arith, append_assoc, codes}
use Rattle.std.specs.List.{AllByRecursion}
use Rattle.line_parts.specs.Numbers.{with_feed, fields}
use Rattle.call_rules.specs.Replies.{reply_line, text_of, HasBytes}
use Rattle.call_rules.specs.declared.calls.Reply.{Reply}
use Rattle.call_rules.specs.declared.calls.Reply.TheVariants.{Placed, Done, Bytes, Number, AllocErr, NoSuchName, NameTaken, BadLayout, OutOfRange}
use Rattle.line_parts.proofs.FieldLemmas.{read_by, read_field, read_field_back, read_hex, read_hex_back}

-- from an address on: the number of refusals, after a word
abbrev read_refused : (ℕ → Reply) × List ℕ → Reply × List ℕ
read_refused f = read_field f.0 (drop (length (codes " refused")) f.1)

abbrev placed : ℕ → ℕ → Reply
placed addr refused = Placed addr refused

-- the reply at the front, and the text after it
abbrev read_reply : List ℕ → Reply × List ℕ
read_reply = read_by (OutOfRange, [])
    ((codes "placed", λ text. read_refused (read_field placed text))
    ∷ (codes "done", λ text. (Done, text))
    ∷ (codes "bytes ", λ text. let f = read_hex text in (Bytes f.0, f.1))
    ∷ (codes "number", read_field Number)
    ∷ (codes "allocerr refused", read_field AllocErr)
    ∷ (codes "no such name", λ text. (NoSuchName, text))
    ∷ (codes "name taken", λ text. (NameTaken, text))
    ∷ (codes "bad layout", λ text. (BadLayout, text))
    ∷ (codes "out of range", λ text. (OutOfRange, text))
    ∷ [])

read_line : (r : Reply) (rest : List ℕ) → HasBytes r → read_reply (reply_line r ++ 10 ∷ rest) ≡ (r, 10 ∷ rest)
read_line (Placed addr refused) rest h =
    let behind = fields (refused ∷ []) ++ 10 ∷ rest in
    let regrouped = append_assoc (fields (addr ∷ []) ++ codes " refused") (fields (refused ∷ [])) (10 ∷ rest)
    ∙ append_assoc (fields (addr ∷ [])) (codes " refused") behind in
    ap (λ text. read_refused (read_field placed text)) regrouped
    ∙ ap read_refused (read_field_back placed addr (codes " refused" ++ behind) refl)
    ∙ read_field_back (placed addr) refused (10 ∷ rest) refl
read_line (Bytes bytes) rest h = ap (λ f. (Bytes f.0, f.1)) (read_hex_back bytes rest h)
read_line (Number n) rest h = read_field_back Number n (10 ∷ rest) refl
read_line (AllocErr refused) rest h = read_field_back AllocErr refused (10 ∷ rest) refl
read_line _ rest h = refl

read_reply_back : (r : Reply) (rest : List ℕ) → HasBytes r → read_reply (with_feed (reply_line r) ++ rest) ≡ (r, 10 ∷ rest)
read_reply_back r rest h = ap read_reply (append_assoc (reply_line r) (10 ∷ []) rest) ∙ read_line r rest h

not_empty : (r : Reply) (rest : List ℕ) → [] ≡ with_feed (reply_line r) ++ rest → ⊥
not_empty r rest e =
    omega (arith, ap length e, length-append (with_feed (reply_line r)) rest, length-append (reply_line r) (10 ∷ []))

pub same_replies : (a b : List Reply) → AllByRecursion HasBytes a → AllByRecursion HasBytes b → text_of a ≡ text_of b → a ≡ b
same_replies [] [] h g e = refl
same_replies [] (s ∷ b) h g e = absurd (not_empty s (text_of b) e)
same_replies (r ∷ a) [] h g e = absurd (not_empty r (text_of a) (sym e))
same_replies (r ∷ a) (s ∷ b) h g e =
    let read : ◌≡◌ {A = Reply × List ℕ} (r, 10 ∷ text_of a) (s, 10 ∷ text_of b)
    = sym (read_reply_back r (text_of a) h.0) ∙ ap read_reply e ∙ read_reply_back s (text_of b) g.0 in
    λ i. (read i).0 ∷ same_replies a b h.1 g.1 (ap (λ (p : Reply × List ℕ). drop 1 p.1) read) i
