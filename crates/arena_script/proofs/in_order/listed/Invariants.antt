use Rattle.std.proofs.Common.{◌≡◌, ℕ, ◌++◌, [], ◌∷◌, drop}
use Rattle.std.specs.List.{flat_map}
use Rattle.arena_script.proofs.in_order.listed.Given as goal

abbrev pub invariant-loop-key : goal.invariant-loop-key
invariant-loop-key l =
    l.all.items ++ flat_map (λ (e : ℕ × ℕ). e.0 ∷ e.1 ∷ []) (drop l.key-index l.key-items)
    ≡ flat_map (λ (e : ℕ × ℕ). e.0 ∷ e.1 ∷ []) l.key-items
