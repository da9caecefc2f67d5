-- The debug text of a list, written from the front.
use Rattle.std.proofs.Common.{◌≡◌, ℕ, ◌+◌, ◌≤◌, arith, List, [], ◌++◌, length, take, sym, Option, Some, IfSome, cond, ltb, slice_get, codes}
use Rattle.std.proofs.Debugs.{debug_items-take}
use Rattle.std.proofs.lemmas.Grind.{common_steps}
use Rattle.std.proofs.lemmas.Option.{slice_get_within, get_or_from_slice_get}
use Rattle.std.specs.Fmt.{◌++?◌, comma_space, debug_items, debug_list, debug_variant}

module _ {T : Type 0} (text : T → Option (List ℕ)) (xs : List T) (i : ℕ) (old new : List ℕ)
    (so_far : IfSome (debug_items text [] (take i xs)) (λ s. old ≡ codes "Vec([" ++ s)) where
  -- one value more
  pub text_more : (x : T) (lead : List ℕ) → slice_get xs i ≡ Some x → lead ≡ cond (ltb 0 i) comma_space []
      → IfSome (Some lead ++? text x) (λ s. new ≡ old ++ s)
      → IfSome (debug_items text [] (take (i + 1) xs)) (λ s. new ≡ codes "Vec([" ++ s)
  text_more x lead here is wrote =
      let more = debug_items-take text xs i x (slice_get_within xs i x here) (sym (get_or_from_slice_get xs i x x here)) in
      grind (arith, common_steps, more)

  -- and the end
  pub text_all : (n : ℕ) → length xs ≡ n → n ≤ i → new ≡ old ++ codes "])"
      → IfSome (debug_variant (codes "Vec") (debug_list text xs)) (λ s. new ≡ s)
  text_all n long all last = grind (arith, common_steps)
