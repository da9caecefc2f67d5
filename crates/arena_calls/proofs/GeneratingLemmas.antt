-- Calls from a number, one after another, and the summary of their replies.
use Rattle.std.proofs.Common.{◌≡◌, ℕ, ◌+◌, ◌<◌, ◌≤◌, [], ◌∷◌, ◌++◌, Some, take, refl, sym, ap, ◌∙◌, subst, arith, add-one}
use Rattle.std.specs.Prelude.{slice_get}
use Rattle.std.proofs.lemmas.Option.{slice_get_read}
use Rattle.std.proofs.lemmas.List.FromFn.{length-map-range_with_len, get_or-map-range_with_len, take-map-range_with_len, map-range_with_len_more}
use Rattle.call_rules.specs.Generator.{call_at, seed_before, seed_behind, gen_calls}
use Rattle.call_rules.specs.declared.calls.Call.{Call}

pub seed_first : (start : ℕ) → start ≡ seed_before start 0
unfolding seed_before
seed_first start = refl

pub seed_more : (start i seed new : ℕ) → seed ≡ seed_before start i → new ≡ seed_behind i seed → new ≡ seed_before start (i + 1)
unfolding seed_before
seed_more start i seed new same is = subst (λ k. new ≡ seed_before start k) (sym (add-one i)) (is ∙ ap (seed_behind i) same)

pub calls_more : (start i seed : ℕ) (call : Call) → seed ≡ seed_before start i → call ≡ call_at i seed
    → gen_calls start (i + 1) ≡ gen_calls start i ++ call ∷ []
calls_more start i seed call same is =
    map-range_with_len_more (λ j. call_at j (seed_before start j)) 0 i i (omega arith)
    ∙ ap (λ x. gen_calls start i ++ x ∷ []) (sym (is ∙ ap (call_at i) same))

pub calls_first : (start count i : ℕ) → i ≤ count → gen_calls start i ≡ take i (gen_calls start count)
calls_first start count i within = sym (take-map-range_with_len (λ j. call_at j (seed_before start j)) 0 count i within)

pub call_next : (start count i seed : ℕ) (call : Call) → i < count → seed ≡ seed_before start i → call ≡ call_at i seed
    → slice_get (gen_calls start count) i ≡ Some call
call_next start count i seed call within same is =
    let call_of : ℕ → Call = λ j. call_at j (seed_before start j) in
    slice_get_read (gen_calls start count) count i call (sym (length-map-range_with_len call_of 0 count)) within
    (is ∙ ap (call_at i) same ∙ sym (get_or-map-range_with_len call_of 0 count i i call within (omega arith)))
