-- Templates that are filled in from the front.
use Rattle.std.proofs.Common.{◌≡◌, ℕ, suc, ◌+◌, ◌*◌, ◌/◌, ◌<◌, ◌≤◌, List, [], ◌∷◌, ◌++◌, length, get_or, drop, refl, ap, sym, ◌∙◌}
use Rattle.std.proofs.Common.{arith, add-one, append_assoc, drop-cons, true, false}
use Rattle.std.specs.Prelude.{◌==◌, nat_le, decimal}
use Rattle.std.specs.List.{flat_map}
use Rattle.std.proofs.lemmas.Bool.Decides.{nat_tests}
use Rattle.std.proofs.lemmas.List.{append-nil, drop_all}
use Rattle.arena_store.specs.declared.block.Block.{Block}
use Rattle.arena_core.specs.declared.iter.Chunk.{Chunk}
use Rattle.arena_drawing.specs.declared.shapes.Shape.{Shape}
use Rattle.arena_drawing.specs.Text.{filled, label_template, label_text, shape_text, em_of, head_template, foot_template, svg_text}

-- a number was appended in place of a `$`
pub filled_number : (n : ℕ) (numbers text : List ℕ) → filled (36 ∷ text) (n ∷ numbers) ≡ decimal n ++ filled text numbers
unfolding filled
filled_number n numbers text = refl

-- a byte that isn't one, or for which no number is left, was appended
pub filled_byte : (n c : ℕ) (numbers : List ℕ) → (c ≡ 36 → ⊥) → (text : List ℕ) → filled (c ∷ text) (n ∷ numbers) ≡ c ∷ filled text (n ∷ numbers)
unfolding filled
filled_byte n c numbers other text = let test : (c == 36) ≡ false = grind (arith, nat_tests) in rw test refl

pub filled_rest : (c : ℕ) (numbers : List ℕ) → length numbers ≡ 0 → (text : List ℕ) → filled (c ∷ text) numbers ≡ c ∷ filled text numbers
unfolding filled
filled_rest c [] none text = refl
filled_rest c (n ∷ numbers) none text = absurd (omega (arith, none))

next : (template : List ℕ) (i c : ℕ) → i < length template → c ≡ get_or template i 0 → drop i template ≡ c ∷ drop (i + 1) template
next template i c below is =
    drop-cons template i 0 below ∙ ap (λ b. b ∷ drop (suc i) template) (sym is) ∙ ap (λ k. c ∷ drop k template) (sym (add-one i))

-- so the next byte of the template was filled in
pub next_put : (template old new whole numbers left piece : List ℕ) (i c : ℕ) → i < length template → c ≡ get_or template i 0
    → ((text : List ℕ) → filled (c ∷ text) numbers ≡ piece ++ filled text left)
    → old ++ filled (drop i template) numbers ≡ whole → new ≡ old ++ piece → new ++ filled (drop (i + 1) template) left ≡ whole
next_put template old new whole numbers left piece i c below is fills before put =
    let rest = drop (i + 1) template in
    ap (λ xs. xs ++ filled rest left) put ∙ append_assoc old piece (filled rest left) ∙ ap (λ xs. old ++ xs) (sym (fills rest))
    ∙ ap (λ xs. old ++ filled xs numbers) (sym (next template i c below is)) ∙ before

pub all_put : (template out whole numbers : List ℕ) (i : ℕ) → length template ≤ i → out ++ filled (drop i template) numbers ≡ whole
    → out ≡ whole
unfolding filled
all_put template out whole numbers i end before =
    sym (append-nil out) ∙ ap (λ xs. out ++ filled xs numbers) (sym (drop_all i template end)) ∙ before

-- ---- A block of some bytes

-- its label is appended where it is wide enough
pub labelled : (em name : ℕ) (block : Block) (a b : List ℕ) → em ≤ block.size / 9
    → b ≡ a ++ filled label_template (name ∷ block.size ∷ []) → b ≡ a ++ label_text em name block
labelled em name block a b wide put = let test : nat_le em (block.size / 9) ≡ true = grind (arith, nat_tests) in rw test put

pub unlabelled : (em name : ℕ) (block : Block) (a b : List ℕ) → block.size / 9 < em → b ≡ a → b ≡ a ++ label_text em name block
unlabelled em name block a b narrow same =
    let test : nat_le em (block.size / 9) ≡ false = grind (arith, nat_tests) in rw test (same ∙ sym (append-nil a))

pub three_put : (old a b new first second third : List ℕ) → a ≡ old ++ first → b ≡ a ++ second → new ≡ b ++ third
    → new ≡ old ++ (first ++ second ++ third)
three_put old a b new first second third on_a on_b on_new =
    on_new ∙ ap (λ xs. xs ++ third) (on_b ∙ ap (λ xs. xs ++ second) on_a ∙ append_assoc old first second)
    ∙ append_assoc old (first ++ second) third

-- ---- The whole text

pub svg_put : (chunks : List Chunk) (shapes shown : List Shape) (em : ℕ) (start a b new : List ℕ) → em ≡ em_of chunks → shown ≡ shapes
    → start ≡ [] → a ≡ start ++ filled head_template ((length chunks * 108 + 108) ∷ (em * 160) ∷ (em * 160) ∷ em ∷ [])
    → b ≡ a ++ flat_map (shape_text em) shown → new ≡ b ++ filled foot_template ((length chunks * 18) ∷ [])
    → new ≡ svg_text chunks shapes
svg_put chunks shapes shown em start a b new is all none head middle foot =
    let text : ℕ → List Shape → List ℕ = λ e xs. (filled head_template ((length chunks * 108 + 108) ∷ (e * 160) ∷ (e * 160) ∷ e ∷ [])
    ++ flat_map (shape_text e) xs) ++ filled foot_template ((length chunks * 18) ∷ []) in
    let top : List ℕ = filled head_template ((length chunks * 108 + 108) ∷ (em * 160) ∷ (em * 160) ∷ em ∷ []) in
    three_put [] a b new _ _ _ (head ∙ ap (λ xs. xs ++ top) none)
    middle foot ∙ ap (λ e. text e shown) is ∙ ap (text (em_of chunks)) all
