-- Texts one after another, and the room for them.
use Rattle.std.proofs.Common.{◌≡◌, ℕ, ◌+◌, ◌<◌, ◌≤◌, List, [], ◌∷◌, ◌++◌, length, take, drop, get_or, sym, ap, ◌∙◌, arith, append_assoc, add-one}
use Rattle.std.specs.List.{flat_map}
use Rattle.std.proofs.Math.Seq.{take-suc}
use Rattle.std.proofs.lemmas.List.{append-nil, take-append-drop}
use Rattle.std.proofs.lemmas.Grind.{flat_map-append}
use Rattle.line_parts.specs.Room.{rooms}

-- one more from the front
pub take_next : {A : Type 0} (xs : List A) (i : ℕ) (d x : A) → i < length xs → x ≡ get_or xs i d → take (i + 1) xs ≡ take i xs ++ x ∷ []
take_next xs i d x h is = ap (λ k. take k xs) (add-one i) ∙ take-suc xs i d h ∙ ap (λ y. take i xs ++ y ∷ []) (sym is)

module _ {A : Type 0} (room : A → ℕ) where
  rooms_append : (xs ys : List A) → rooms room (xs ++ ys) ≡ rooms room xs + rooms room ys
  rooms_append [] ys = omega arith
  rooms_append (x ∷ xs) ys = omega (arith, rooms_append xs ys)

  pub rooms_more : (xs : List A) (i : ℕ) (x : A) → i < length xs → x ≡ get_or xs i x
      → rooms room (take (i + 1) xs) ≡ rooms room (take i xs) + room x
  rooms_more xs i x h is = omega (arith, ap (rooms room) (take_next xs i x x h is), rooms_append (take i xs) (x ∷ []))

  pub rooms_within : (xs : List A) (i : ℕ) (x : A) → i < length xs → x ≡ get_or xs i x → rooms room (take i xs) + room x ≤ rooms room xs
  rooms_within xs i x h is = omega (
    arith,
    rooms_more xs i x h is,
    rooms_append (take (i + 1) xs) (drop (i + 1) xs),
    ap (rooms room) (take-append-drop (i + 1) xs),
  )

-- the text of one more was appended
pub text_more : {A : Type 0} (text : A → List ℕ) (old mid new : List ℕ) (xs : List A) (i : ℕ) (x : A) → i < length xs → x ≡ get_or xs i x
    → mid ≡ old ++ flat_map text (take i xs) → new ≡ mid ++ text x → new ≡ old ++ flat_map text (take (i + 1) xs)
text_more text old mid new xs i x h is before put =
    let more : flat_map text (take (i + 1) xs) ≡ flat_map text (take i xs) ++ text x
    = ap (flat_map text) (take_next xs i x x h is) ∙ flat_map-append text (take i xs) (x ∷ [])
    ∙ ap (λ ys. flat_map text (take i xs) ++ ys) (append-nil (text x)) in
    put ∙ ap (λ ys. ys ++ text x) before ∙ append_assoc old (flat_map text (take i xs)) (text x) ∙ ap (λ ys. old ++ ys) (sym more)
