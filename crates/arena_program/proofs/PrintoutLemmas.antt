-- Texts one after another: put together, and written.
use Rattle.std.proofs.Common.{◌≡◌, ℕ, suc, zero, ◌+◌, ◌<◌, List, [], ◌∷◌, ◌++◌, Option, length, set, get_or, take, drop, sym, ap, ◌∙◌, subst, append_assoc, arith}
use Rattle.std.specs.Prelude.{Vec}
use Rattle.std.specs.Global.{Global}
use Rattle.std.proofs.lemmas.Grind.{flat_map-append}
use Rattle.std.proofs.lemmas.List.{append-nil, take-append-drop}
use Rattle.line_parts.proofs.RoomLemmas.{take_next}
use Rattle.arena_calls.specs.Streams.{Writes, WritesPart}
use Rattle.arena_calls.proofs.StreamLemmas.{part_of_first, part_of_second}
use Rattle.arena_program.specs.Rendering.{joined}

-- the last of some texts has another text behind it
pub joined_last : (texts : List (Vec ℕ Global)) (last : ℕ) (d new : Vec ℕ Global) (text : List ℕ) → last + 1 ≡ length texts
    → new.items ≡ (get_or texts last d).items ++ text → joined (set texts last new) ≡ joined texts ++ text
joined_last [] last d new text there put = absurd (omega (arith, there))
joined_last (one ∷ []) zero d new text there put =
    append-nil new.items ∙ put ∙ ap (λ xs. xs ++ text) (sym (append-nil one.items))
joined_last (one ∷ []) (suc last) d new text there put = absurd (omega (arith, there))
joined_last (one ∷ other ∷ texts) zero d new text there put = absurd (omega (arith, there))
joined_last (one ∷ other ∷ texts) (suc last) d new text there put =
    ap (λ xs. one.items ++ xs) (joined_last (other ∷ texts) last d new text (omega (arith, there)) put)
    ∙ sym (append_assoc one.items (joined (other ∷ texts)) text)

joined_more : (texts : List (Vec ℕ Global)) (i : ℕ) (text : Vec ℕ Global) → i < length texts → text ≡ get_or texts i text
    → joined (take (i + 1) texts) ≡ joined (take i texts) ++ text.items
joined_more texts i text within is = ap joined (take_next texts i text text within is)
    ∙ flat_map-append (λ t. t.items) (take i texts) (text ∷ []) ∙ ap (λ xs. joined (take i texts) ++ xs) (append-nil text.items)

-- a part of one was written, behind those before it
pub part_of_all : (old mid new : Option (List ℕ)) (texts : List (Vec ℕ Global)) (i : ℕ) (text : Vec ℕ Global) → i < length texts
    → text ≡ get_or texts i text → Writes old mid (joined (take i texts)) → WritesPart mid new text.items
    → WritesPart old new (joined texts)
part_of_all old mid new texts i text within is before part =
    let front = joined (take i texts) in
    let rest = joined (drop (i + 1) texts) in
    let whole : (front ++ text.items) ++ rest ≡ joined texts
    = ap (λ xs. xs ++ rest) (sym (joined_more texts i text within is))
    ∙ sym (flat_map-append (λ t. t.items) (take (i + 1) texts) (drop (i + 1) texts)) ∙ ap joined (take-append-drop (i + 1) texts) in
    subst (WritesPart old new) whole
    (part_of_first old new (front ++ text.items) rest (part_of_second old mid new front text.items before part))
