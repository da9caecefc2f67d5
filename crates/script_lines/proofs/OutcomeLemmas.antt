-- Lines of outcomes, one after another.
use Rattle.std.proofs.lemmas.Bool.Decides.{nat_tests}
use Rattle.std.proofs.Common.{◌≡◌, ℕ, ◌+◌, ◌<◌, List, [], ◌∷◌, ◌++◌, length, map, take, get_or, refl, sym, ap, ◌∙◌, arith, append_assoc, codes}
use Rattle.std.specs.List.{flat_map}
use Rattle.std.proofs.lemmas.List.{append-nil, map-append, length-map, length-take-le}
use Rattle.std.proofs.lemmas.Grind.{flat_map-append}
use Rattle.std.proofs.lemmas.List.Folds.{flat_map-map}
use Rattle.line_parts.specs.Numbers.{number, fields, with_feed}
use Rattle.line_parts.proofs.RoomLemmas.{take_next}
use Rattle.script_rules.specs.Outcomes.{Told, ended_line, outcome_lines, lines_from}
use Rattle.script_lines.specs.Room.{fed_reply, outcome_text}

-- ---- Numbers

fields_more : (ns : List ℕ) (n : ℕ) → fields (ns ++ n ∷ []) ≡ fields ns ++ fields (n ∷ [])
fields_more [] n = refl
fields_more (m ∷ ns) n = ap (λ xs. 32 ∷ number m ++ xs) (fields_more ns n)
    ∙ ap (λ xs. 32 ∷ xs) (sym (append_assoc (number m) (fields ns) (fields (n ∷ []))))

pub field_more : (old mid new ns : List ℕ) (i : ℕ) → i < length ns → mid ≡ old ++ fields (take i ns)
    → new ≡ mid ++ fields (get_or ns i 0 ∷ []) → new ≡ old ++ fields (take (i + 1) ns)
field_more old mid new ns i h before put =
    put ∙ ap (λ xs. xs ++ fields (get_or ns i 0 ∷ [])) before ∙ append_assoc old (fields (take i ns)) (fields (get_or ns i 0 ∷ []))
    ∙ ap (λ xs. old ++ xs) (sym (fields_more (take i ns) (get_or ns i 0)) ∙ ap fields (sym (take_next ns i 0 (get_or ns i 0) h refl)))

-- ---- Outcomes

pub outcome_put : (old a b c d e : List ℕ) (i : ℕ) (outcome : Told) → a ≡ old ++ codes "script" → b ≡ a ++ fields (i ∷ [])
    → c ≡ b ++ 10 ∷ [] → d ≡ c ++ flat_map fed_reply outcome.replies
    → e ≡ d ++ with_feed (ended_line outcome.ended) → e ≡ old ++ outcome_text i outcome
outcome_put old a b c d e i outcome on_a on_b on_c on_d on_e =
    grind (arith, nat_tests, codes, append_assoc, flat_map-append, flat_map-map, append-nil)

lines_more : (i : ℕ) (outcomes : List Told) (outcome : Told) → flat_map with_feed (lines_from i (outcomes ++ outcome ∷ []))
    ≡ flat_map with_feed (lines_from i outcomes) ++ outcome_text (i + length outcomes) outcome
lines_more i [] outcome =
    let same : i ≡ i + 0 = omega arith in
    ap (flat_map with_feed) (append-nil (outcome_lines i outcome)) ∙ ap (λ k. outcome_text k outcome) same
lines_more i (o ∷ outcomes) outcome =
    let same : (i + 1) + length outcomes ≡ i + length (o ∷ outcomes) = omega arith in
    flat_map-append with_feed (outcome_lines i o) (lines_from (i + 1) (outcomes ++ outcome ∷ []))
    ∙ ap (λ xs. outcome_text i o ++ xs) (lines_more (i + 1) outcomes outcome
    ∙ ap (λ k. flat_map with_feed (lines_from (i + 1) outcomes) ++ outcome_text k outcome) same)
    ∙ sym (append_assoc (outcome_text i o) (flat_map with_feed (lines_from (i + 1) outcomes))
    (outcome_text (i + length (o ∷ outcomes)) outcome))
    ∙ ap (λ xs. xs ++ outcome_text (i + length (o ∷ outcomes)) outcome)
    (sym (flat_map-append with_feed (outcome_lines i o) (lines_from (i + 1) outcomes)))

-- the lines of one more outcome, whatever it is printed from
pub outcome_more : {X : Type 0} (f : X → Told) (old mid new : List ℕ) (xs : List X) (i : ℕ) (x : X) → i < length xs → x ≡ get_or xs i x
    → mid ≡ old ++ flat_map with_feed (lines_from 0 (map f (take i xs))) → new ≡ mid ++ outcome_text i (f x)
    → new ≡ old ++ flat_map with_feed (lines_from 0 (map f (take (i + 1) xs)))
outcome_more f old mid new xs i x h is before put =
    let front = map f (take i xs) in
    let count : 0 + length front ≡ i = omega (arith, length-map (take i xs) f, length-take-le i xs (omega arith)) in
    let more : flat_map with_feed (lines_from 0 (map f (take (i + 1) xs))) ≡ flat_map with_feed (lines_from 0 front) ++ outcome_text i (f x)
    = ap (λ os. flat_map with_feed (lines_from 0 (map f os))) (take_next xs i x x h is)
    ∙ ap (λ os. flat_map with_feed (lines_from 0 os)) (map-append f (take i xs) (x ∷ []))
    ∙ lines_more 0 front (f x) ∙ ap (λ k. flat_map with_feed (lines_from 0 front) ++ outcome_text k (f x)) count in
    put ∙ ap (λ xs. xs ++ outcome_text i (f x)) before
    ∙ append_assoc old (flat_map with_feed (lines_from 0 front)) (outcome_text i (f x)) ∙ ap (λ xs. old ++ xs) (sym more)
