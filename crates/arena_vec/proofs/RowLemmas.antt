-- Lists of which a part moves.
use Rattle.std.proofs.Common.{◌≡◌, ℕ, suc, zero, ◌+◌, ◌-◌, ◌<◌, ◌≤◌, List, [], ◌∷◌, ◌++◌, length, take, drop, refl, ap, arith, set, append-nil, add-one}
use Rattle.std.proofs.lemmas.Grind.{common_steps}
use Rattle.std.proofs.lemmas.List.{drop-take, take-take}
use Rattle.std.specs.List.{insert, remove_range}
use Rattle.arena_items.specs.Rows.{over}

-- what comes after a part moves down over it
pub moved_down : {T : Type 0} (xs : List T) (from to : ℕ) → from ≤ to → to ≤ length xs
    → take (length xs - (to - from)) (over xs from (take (length xs - to) (drop to xs))) ≡ remove_range xs from to
moved_down xs from to h l = grind (arith, common_steps)

set_after : {T : Type 0} (xs ys : List T) (i : ℕ) (v : T) → i < length xs → set (take (suc i) xs ++ ys) i v ≡ take i xs ++ v ∷ ys
set_after [] ys i v h = absurd (omega arith)
set_after (x ∷ xs) ys zero v h = refl
set_after (x ∷ xs) ys (suc i) v h = ap (λ l. x ∷ l) (set_after xs ys i v (omega arith))

-- the values from an index on move up by one, and another is put there
pub moved_up : {T : Type 0} (xs : List T) (n i : ℕ) (v : T) → length xs ≡ n + 1 → i ≤ n
    → set (over xs (i + 1) (take (n - i) (drop i xs))) i v ≡ insert (take n xs) i v
moved_up {T} xs n i v e h =
    let ys : List T = take (n - i) (drop i xs) in
    let none : drop (i + 1 + length ys) xs ≡ [] = grind (arith, common_steps) in
    let whole : i + (n - i) ≡ n = omega arith in
    let same : drop i (take n xs) ≡ ys = rw whole at (drop-take i (n - i) xs) in
    rw (none, append-nil (take (i + 1) xs ++ ys), add-one, take-take i n xs h, same) (set_after xs ys i v (omega arith))
