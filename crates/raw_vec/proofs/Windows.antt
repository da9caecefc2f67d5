-- Lists that are walked from both ends.
use Rattle.std.proofs.Common.{◌≡◌, ℕ, ◌+◌, ◌-◌, ◌*◌, ◌<◌, ◌≤◌, List, [], ◌∷◌, ◌++◌, length, take, drop, sym, ap, ◌∙◌, arith, Some, None}
use Rattle.std.proofs.lemmas.Grind.{common_steps}
use Rattle.std.proofs.Math.Nat.{add-mul}
use Rattle.std.specs.Prelude.{slice_get, Option}
use Rattle.std.specs.Iterator.{YieldsFirst}
use Rattle.std.proofs.lemmas.List.{length-take, length-drop, take_more, drop_more}
use Rattle.std.proofs.lemmas.Option.{slice_get_within, get_or_from_slice_get}
use Rattle.arena_items.specs.Values.{elements}
use Rattle.raw_vec.specs.Rows.{window}
use Rattle.arena_items.proofs.Layers.{length-elements, elements-empty, elements-cut, elements-drop, elements-front}

pub length-window : {T : Type 0} (xs : List T) (f b : ℕ) → b ≤ length xs → length (window xs f b) ≡ b - f
unfolding window
length-window xs f b h = omega (arith, length-drop f (take b xs), length-take b xs)

pub window-whole : {T : Type 0} (xs : List T) (b : ℕ) → b ≡ length xs → window xs 0 b ≡ xs
unfolding window
window-whole xs b h = grind (arith, common_steps)

pub window-none : {T : Type 0} (xs : List T) (f b : ℕ) → f ≡ b → b ≤ length xs → window xs f b ≡ []
unfolding window
window-none xs f b e h = grind (arith, common_steps)

pub window-first : {T : Type 0} (xs : List T) (f b : ℕ) (x : T) → f < b → slice_get xs f ≡ Some x → window xs f b ≡ x ∷ window xs (f + 1) b
unfolding window
window-first xs f b x less got =
    let within = slice_get_within xs f x got in
    grind (arith, common_steps, drop_more (take b xs) f x (omega (arith, length-take b xs)), get_or_from_slice_get xs f x x got)

pub window-last : {T : Type 0} (xs : List T) (f b : ℕ) (x : T) → f < b → slice_get xs (b - 1) ≡ Some x → window xs f b
    ≡ window xs f (b - 1) ++ x ∷ []
unfolding window
window-last xs f b x less got =
    let more = take_more xs (b - 1) x (slice_get_within xs (b - 1) x got) in
    grind (arith, common_steps, more, get_or_from_slice_get xs (b - 1) x x got)

-- and what a walk gives first.
pub first_left : {T S : Type 0} (rest : S → List T) (s t : S) (r : Option T) → YieldsFirst rest s r t → slice_get (rest s) 0 ≡ r
first_left rest s t None gives = ap (λ xs. slice_get xs 0) gives.0
first_left rest s t (Some x) gives = ap (λ xs. slice_get xs 0) gives

pub ruleset window_laws = (length-window, window-whole, window-none, window-first, window-last, length-elements)

-- Windows of values in a block, whose lengths don't depend on the bytes.
module _ {T : Type 0} (size : ℕ) (dec : List ℕ → T) (n f b : ℕ) (bs : List ℕ) (order : f ≤ b) (within : b ≤ n) where
  pub window_left : elements size dec (b - f) (drop (f * size) bs) ≡ window (elements size dec n bs) f b
  unfolding window
  window_left = let whole : f + (b - f) ≡ b = omega arith in elements-drop size dec f (b - f) bs
      ∙ ap (λ k. drop f (elements size dec k bs)) whole ∙ ap (drop f) (elements-cut size dec b n bs within)

-- The bytes of the values that are left.
pub window_bytes : {T : Type 0} (size : ℕ) (dec : List ℕ → T) (n f b : ℕ) (bs : List ℕ) → f ≤ b → b ≤ n
    → elements size dec (b - f) (take (b * size - f * size) (drop (f * size) bs)) ≡ window (elements size dec n bs) f b
window_bytes size dec n f b bs order within =
    let whole : f + (b - f) ≡ b = omega arith in
    let sum : (f + (b - f)) * size ≡ f * size + (b - f) * size = add-mul f (b - f) size in
    let all : b * size ≡ f * size + (b - f) * size = ap (λ k. k * size) (sym whole) ∙ sum in
    let long : b * size - f * size ≡ (b - f) * size = omega (arith, all) in
    ap (λ k. elements size dec (b - f) (take k (drop (f * size) bs))) long ∙ elements-front size dec (b - f) (drop (f * size) bs)
    ∙ window_left size dec n f b bs order within

pub left_first_at : {T : Type 0} (size : ℕ) (dec : List ℕ → T) (n f b : ℕ) (bs : List ℕ) (x : T) → f < b → b ≤ n
    → slice_get (elements size dec n bs) f ≡ Some x
    → elements size dec (b - f) (drop (f * size) bs) ≡ x ∷ elements size dec (b - (f + 1)) (drop ((f + 1) * size) bs)
left_first_at size dec n f b bs x less within e =
    window_left size dec n f b bs (omega arith) within ∙ window-first (elements size dec n bs) f b x less e
    ∙ ap (λ xs. x ∷ xs) (sym (window_left size dec n (f + 1) b bs (omega arith) within))

pub left_last_at : {T : Type 0} (size : ℕ) (dec : List ℕ → T) (n f b : ℕ) (bs : List ℕ) (x : T) → f < b → b ≤ n
    → slice_get (elements size dec n bs) (b - 1) ≡ Some x
    → elements size dec (b - f) (drop (f * size) bs) ≡ elements size dec (b - 1 - f) (drop (f * size) bs) ++ x ∷ []
left_last_at size dec n f b bs x less within e =
    window_left size dec n f b bs (omega arith) within ∙ window-last (elements size dec n bs) f b x less e
    ∙ ap (λ xs. xs ++ x ∷ []) (sym (window_left size dec n f (b - 1) bs (omega arith) (omega arith)))

pub ruleset drain_laws = (left_first_at, left_last_at, window_left, elements-empty, length-elements)
