-- What a handle needs of an arena, in another state.
use Rattle.std.proofs.Common.{◌≡◌, ℕ, List, [], ◌∷◌, ◌++◌, IsTrue}
use Rattle.std.specs.List.{AllByRecursion}
use Rattle.arena_rules.specs.State.{State}
use Rattle.arena_chunks.specs.Memory.{Memory, is_readable}
use Rattle.arena_store.specs.declared.block.Block.{Block}
use Rattle.arena_items.specs.Footprint.{AreReadable, Agree}
use Rattle.arena_items.specs.Values.{IsHeld, bytes_of}

-- A block that is held is readable.
pub held_readable : (size align : ℕ) (state : State) (b : Block) → IsHeld size align state b → AreReadable state (b ∷ [])
held_readable size align state b held = (held.readable, tt)

-- It is held wherever it is readable.
pub held_again : (size align : ℕ) (old new : State) (b : Block) → IsHeld size align old b → IsTrue (is_readable new b)
    → IsHeld size align new b
held_again size align old new b held readable = record { readable = readable; of_size = held.of_size; of_align = held.of_align }

-- ---- The blocks of two values

-- What holds of all members of two lists holds of all members of each, and the other way.
all_parts : {X : Type 0} (P : X → Type 0) (xs ys : List X) → AllByRecursion P (xs ++ ys) → AllByRecursion P xs × AllByRecursion P ys
all_parts P [] ys all = (tt, all)
all_parts P (x ∷ xs) ys all = let rest = all_parts P xs ys all.1 in ((all.0, rest.0), rest.1)

all_both : {X : Type 0} (P : X → Type 0) (xs ys : List X) → AllByRecursion P xs → AllByRecursion P ys → AllByRecursion P (xs ++ ys)
all_both P [] ys one two = two
all_both P (x ∷ xs) ys one two = (one.0, all_both P xs ys one.1 two)

pub readable_parts : (state : State) (xs ys : List Block) → AreReadable state (xs ++ ys) → AreReadable state xs × AreReadable state ys
readable_parts state xs ys all = all_parts (λ (b : Block). IsTrue (is_readable state b)) xs ys all

pub readable_both : (state : State) (xs ys : List Block) → AreReadable state xs → AreReadable state ys → AreReadable state (xs ++ ys)
readable_both state xs ys one two = all_both (λ (b : Block). IsTrue (is_readable state b)) xs ys one two

pub agree_parts : (a c : Memory) (xs ys : List Block) → Agree a c (xs ++ ys) → Agree a c xs × Agree a c ys
agree_parts a c xs ys all = all_parts (λ (b : Block). bytes_of a b ≡ bytes_of c b) xs ys all
